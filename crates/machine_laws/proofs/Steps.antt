-- Each step keeps a world sound.
use Rattle.std.proofs.Common.{◌≡◌, ℕ, ◌≤◌, Bool, true, false, List, [], ◌∷◌, length, slice_get, Option, Some, None, MatchOption, Result, refl, subst, arith}
use Rattle.std.proofs.lemmas.List.Elements.{All-nil}
use Rattle.omx_types.specs.declared.handle.Handle.{Handle}
use Rattle.omx_types.specs.declared.handle.PortId.{PortId}
use Rattle.omx_types.specs.declared.command.Command.{Command}
use Rattle.omx_types.specs.declared.command.Note.{Note}
use Rattle.omx_types.specs.declared.command.Note.TheVariants as notes
use Rattle.omx_types.specs.declared.error.OmxError.{OmxError}
use Rattle.omx_types.specs.declared.error.CallError.{CallError}
use Rattle.omx_types.specs.declared.error.CallError.TheVariants.{Omx}
use Rattle.omx_types.specs.declared.param.Param.{Param}
use Rattle.omx_types.specs.declared.param.ParamKey.{ParamKey}
use Rattle.omx_types.specs.declared.param.Supplier.{Supplier}
use Rattle.part_api.specs.declared.attached.Attached.{Attached}
use Rattle.il_machine.specs.declared.answer.Acted.{Acted}
use Rattle.il_machine.specs.declared.port.Link.{Link}
use Rattle.il_machine.specs.declared.port.Port.{Port}
use Rattle.il_machine.specs.declared.header.HeaderState.{HeaderState}
use Rattle.il_machine.specs.declared.header.Owner.TheVariants as owners
use Rattle.il_machine.specs.World.{Component, World, no_world, place_of, place_numbered, port_of, with_component}
use Rattle.il_machine.specs.Headers.{seen, find_header, loaded, empty_load, unloaded}
use Rattle.il_machine.specs.Look.{look}
use Rattle.il_machine.specs.Answers.{plain}
use Rattle.il_machine.specs.Kinds.{kind_of}
use Rattle.il_machine.specs.Due.{ClosesTo}
use Rattle.il_machine.specs.Components.{GetHandle, FreeHandle, get_handle_refusal, with_new_component, free_refusal, without_component, state_answer, view_answer, progress_answer}
use Rattle.il_machine.specs.Parameters.{SetParameter, SetConfig, set_parameter_refusal, set_config_refusal, with_value, parameter_answer}
use Rattle.il_machine.specs.Tunnels.{SetupTunnel, DropTunnel, setup_refusal, drop_refusal, both_joined, both_parted, agreed_of}
use Rattle.il_machine.specs.Commands.{SendCommand, RunCommand, send_refusal, sent, run_idle, run_front}
use Rattle.il_machine.specs.Buffers.{AllocateBuffer, UseBuffer, FreeBuffer, EmptyThisBuffer, FillThisBuffer, Held, held_of, load_in, AtState, IsWithClient, allocate_refusal, use_refusal, client_header, with_header, free_buffer_refusal, unpopulated, without_header, empty_refusal, fill_refusal, with_todo}
use Rattle.il_machine.specs.Notes.{TakeNote, EndNote, TakeFrom, TakesHeader, Taken, TakenEmpty, TakenFilled, Took, with_given, with_client, back_in}
use Rattle.il_machine.specs.Flow.{Supply, Release, HandOver, HandBack, supply_idle, with_supplied, release_idle, in_port, front_unmade, over_idle, handed_over, back_idle, handed_back}
use Rattle.il_machine.specs.Files.{Offered, Attach, attach_refusal, with_file}
use Rattle.il_machine.specs.Stepping.{WorkDone, IsDoneOf}
use Rattle.il_machine.specs.Finishing.{Finish, finished}
use Rattle.il_machine.specs.Claims.{Claim, Claims, Claimed, claim_idle, work_of, with_work}
use Rattle.il_machine.specs.Acts.{Act, Reply}
use Rattle.il_machine.specs.Acts as acts
use Rattle.il_machine.specs.Run.{Step, Meets, Run}
use Rattle.il_machine.specs.Sound.{Sound}
use Rattle.machine_laws.proofs.Keys.{there_is}
use Rattle.machine_laws.proofs.Change.{sound_component, sound_taking_units, out_there}
use Rattle.machine_laws.proofs.Units.{resources_of}
use Rattle.machine_laws.proofs.Parts.{parts_of}
use Rattle.machine_laws.proofs.Sending.{sound_sent, change_sent, fair_sent}
use Rattle.machine_laws.proofs.Running.{sound_run, change_run, fair_run}
use Rattle.machine_laws.proofs.ClientHeaders.{sound_allocated, sound_used, sound_emptied, sound_filled, sound_freed}
use Rattle.machine_laws.proofs.Notices.{sound_noticed, sound_given, sound_taken, note_emptied, note_filled, IsNoteOf, sound_ended}
use Rattle.machine_laws.proofs.Coming.{kind_sized, sound_new, sound_removed}
use Rattle.machine_laws.proofs.Attaching.{sound_attached}
use Rattle.machine_laws.proofs.Claiming.{sound_claimed}
use Rattle.machine_laws.proofs.Finishing.{sound_finished}
use Rattle.machine_laws.proofs.Values.{sound_set, sound_configured}
use Rattle.machine_laws.proofs.Happening.{sound_closes}
use Rattle.machine_laws.proofs.Granting.{grant_keeps, preempt_keeps}
use Rattle.machine_laws.proofs.Flowing.{sound_supplied, sound_released, sound_handed_over, sound_returned}
use Rattle.machine_laws.proofs.Tunnels.{sound_joined, sound_parted}
use Rattle.machine_laws.proofs.Forms.{stays_sound, resolving_keeps, on_port_keeps, answers_as_keep, answers_keep, answers_or_memory_keep, acts_keep, looks_keep}

-- ---- components

get_keeps : (w v : World) (name : List ℕ) (result : Result Handle CallError) → GetHandle w name result v → Sound w → Sound v
get_keeps w v name result h S = answers_or_memory_keep (get_handle_refusal (look w) name) result w v _ h S (λ x n a.
    let k = there_is (kind_of name) (λ kind. ClosesTo (with_new_component x kind w) v) a.2 in
    sound_closes (with_new_component x k.0 w) v k.2 (sound_new w x k.0 S a.0 (kind_sized name k.0 k.1)))

free_keeps : (w v : World) (h : Handle) (result : Result (Option Attached) OmxError) → FreeHandle w h result v → Sound w → Sound v
free_keeps w v h result r S = resolving_keeps plain w v h result _ S r (λ i c t a. answers_keep (free_refusal (look w).headers c) result w v _ a S (λ x n b.
    sound_closes (without_component i c w) v b.1 (sound_removed w i c S t n)))

attach_keeps : (w v : World) (h : Handle) (file : Offered) (result : Result (Unit {0}) OmxError) → Attach w h file result v → Sound w → Sound v
attach_keeps w v h file result r S = resolving_keeps plain w v h result _ S r (λ i c t a. answers_keep (attach_refusal c file) result w v _ a S (λ x n b.
    sound_closes (with_file i c file w) v b (sound_attached w i c file S t n)))

-- ---- parameters and configs

set_keeps : (w v : World) (h : Handle) (key : ParamKey) (value : Param) (result : Result (Unit {0}) OmxError) → SetParameter w h key value result v → Sound w → Sound v
set_keeps w v h key value result r S = resolving_keeps plain w v h result _ S r (λ i c t a. answers_keep (set_parameter_refusal (look w).headers c key value) result w v _ a S (λ x n b.
    sound_closes (with_component i (with_value key value c) w) v b (sound_set w i c key value S t n)))

configure_keeps : (w v : World) (h : Handle) (key : ParamKey) (value : Param) (result : Result (Unit {0}) OmxError) → SetConfig w h key value result v → Sound w → Sound v
configure_keeps w v h key value result r S = resolving_keeps plain w v h result _ S r (λ i c t a. answers_keep (set_config_refusal c key value) result w v _ a S (λ x n b.
    sound_closes (with_component i (with_value key value c) w) v b (sound_configured w i c key value S t n)))

-- ---- commands

send_keeps : (w v : World) (h : Handle) (command : Command) (result : Result (Unit {0}) OmxError) → SendCommand w h command result v → Sound w → Sound v
send_keeps w v h command result r S = resolving_keeps plain w v h result _ S r (λ i c t a. answers_keep (send_refusal (look w) c command) result w v _ a S (λ x n b.
    sound_closes (with_component i (sent command c) w) v b (sound_component w i c (sent command c) S t (change_sent command c) (sound_sent (look w) command c ((parts_of w S).components i c t) n)
    (fair_sent w.waits command c ((resources_of w S).each i c t) (out_there w i c S t)))))

run_keeps : (w v : World) (h : Handle) (result : Result Acted OmxError) → RunCommand w h result v → Sound w → Sound v
run_keeps w v h result r S = resolving_keeps plain w v h result _ S r (λ i c t a. acts_keep (run_idle c c.commands) result w (with_component i (run_front (look w) c.commands c) w) v a S (λ n.
    sound_taking_units w i c (run_front (look w) c.commands c) S t (change_run (look w) c) (sound_run (look w) c ((parts_of w S).components i c t) n)
    (fair_run (look w) w.waits c ((resources_of w S).each i c t) (out_there w i c S t) n)))

-- ---- headers of client ports

allocate_keeps : (w v : World) (h : Handle) (port : ℕ) (result : Result Held CallError) → AllocateBuffer w h port result v → Sound w → Sound v
allocate_keeps w v h port result r S = resolving_keeps Omx w v h result _ S r (λ i c t a. answers_as_keep Omx (allocate_refusal (look w) c (port_of c port)) result w v _ a S (λ x n b.
    let p = there_is (port_of c port) (λ p. let s = client_header w.made p false in (x ≡ held_of s (empty_load None)) × ClosesTo (with_header s None w) v) b in
    sound_closes (with_header (client_header w.made p.0 false) None w) v (p.2).1 (sound_allocated w i c port p.0 S t p.1 n)))

use_keeps : (w v : World) (h : Handle) (port : ℕ) (bytes : List ℕ) (result : Result Held OmxError) → UseBuffer w h port bytes result v → Sound w → Sound v
use_keeps w v h port bytes result r S = resolving_keeps plain w v h result _ S r (λ i c t a. answers_keep (use_refusal (look w) c (port_of c port) (length bytes)) result w v _ a S (λ x n b.
    let p = there_is (port_of c port) (λ p. let s = client_header w.made p true in (x ≡ held_of s (empty_load (Some bytes))) × ClosesTo (with_header s (Some bytes) w) v) b in
    sound_closes (with_header (client_header w.made p.0 true) (Some bytes) w) v (p.2).1 (sound_used w i c port p.0 bytes S t p.1 n)))

-- the owner of a header that the caller was to hold
held_by_client : (number : ℕ) (w : World) (s : HeaderState) (P : HeaderState → Type 0) → (seen w.headers).header number ≡ Some s → AtState number (look w) P → P s
held_by_client number w s P e h = rw e at h

unmake_keeps : (w v : World) (h : Handle) (port number : ℕ) (result : Result Bool OmxError) → IsWithClient number (look w) → FreeBuffer w h port number result v → Sound w → Sound v
unmake_keeps w v h port number result M r S = resolving_keeps plain w v h result _ S r (λ i c t a.
    let s = there_is ((seen w.headers).header number) _ a in
    let o = held_by_client number w s.0 (λ x. x.owner ≡ owners.Client) s.1 M in
    answers_keep (free_buffer_refusal c (port_of c port) s.0) result w v _ s.2 S (λ x n b.
    let p = there_is (port_of c port) (λ p. (x ≡ (s.0).client_memory) × ClosesTo (without_header number (with_component i (unpopulated p c) w)) v) b in
    sound_closes (without_header number (with_component i (unpopulated p.0 c) w)) v (p.2).1 (sound_freed w i c port p.0 s.0 number S t p.1 s.1 o n)))

empty_keeps : (w v : World) (h : Handle) (port : ℕ) (header : Held) (result : Result (Unit {0}) OmxError) → IsWithClient header.number (look w) → EmptyThisBuffer w h port header result v → Sound w → Sound v
empty_keeps w v h port header result M r S = resolving_keeps plain w v h result _ S r (λ i c t a.
    let s = there_is ((seen w.headers).header header.number) _ a in
    let o = held_by_client header.number w s.0 (λ x. x.owner ≡ owners.Client) s.1 M in
    answers_keep (empty_refusal c (port_of c port) s.0 header.content) result w v _ s.2 S (λ x n b.
    let p = there_is (port_of c port) (λ p. ClosesTo (with_todo p.key header.number (loaded (load_in header)) w) v) b in
    sound_closes (with_todo (p.0).key header.number (loaded (load_in header)) w) v p.2 (sound_emptied w c port p.0 s.0 header S p.1 s.1 o n)))

fill_keeps : (w v : World) (h : Handle) (port : ℕ) (header : Held) (result : Result (Unit {0}) OmxError) → IsWithClient header.number (look w) → FillThisBuffer w h port header result v → Sound w → Sound v
fill_keeps w v h port header result M r S = resolving_keeps plain w v h result _ S r (λ i c t a.
    let s = there_is ((seen w.headers).header header.number) _ a in
    let o = held_by_client header.number w s.0 (λ x. x.owner ≡ owners.Client) s.1 M in
    answers_keep (fill_refusal c (port_of c port) s.0) result w v _ s.2 S (λ x n b.
    let p = there_is (port_of c port) (λ p. ClosesTo (with_todo p.key header.number (loaded (unloaded (load_in header))) w) v) b in
    sound_closes (with_todo (p.0).key header.number (loaded (unloaded (load_in header))) w) v p.2 (sound_filled w c port p.0 s.0 header S p.1 s.1 o n)))

-- ---- tunnels

setup_keeps : (w v : World) (output input : PortId) (result : Result Supplier OmxError) → SetupTunnel w output input result v → Sound w → Sound v
setup_keeps w v output input result r S = resolving_keeps plain w v output.handle result _ S r (λ i c t r'. resolving_keeps plain w v input.handle result _ S r' (λ j d u a.
    answers_keep (setup_refusal (look w).headers c d (port_of c output.index) (port_of d input.index)) result w v _ a S (λ supplier n b.
    let p = there_is (port_of c output.index) _ b in
    let q = there_is (port_of d input.index) (λ q. (supplier ≡ agreed_of p.0 q) × ClosesTo (both_joined supplier i c p.0 j d q w) v) p.2 in
    let C = subst (λ (x : Supplier). ClosesTo (both_joined x i c p.0 j d q.0 w) v) (q.2).0 (q.2).1 in
    sound_closes (both_joined (agreed_of p.0 q.0) i c p.0 j d q.0 w) v C (sound_joined w i c output.index p.0 j d input.index q.0 S t p.1 u q.1 n))))

drop_keeps : (w v : World) (output input : PortId) (result : Result (Unit {0}) OmxError) → DropTunnel w output input result v → Sound w → Sound v
drop_keeps w v output input result r S = resolving_keeps plain w v output.handle result _ S r (λ i c t r'. resolving_keeps plain w v input.handle result _ S r' (λ j d u a.
    answers_keep (drop_refusal (look w).headers (port_of c output.index) (port_of d input.index)) result w v _ a S (λ x n b.
    let p = there_is (port_of c output.index) _ b in
    let q = there_is (port_of d input.index) (λ q. ClosesTo (both_parted i c p.0 j d q w) v) p.2 in
    sound_closes (both_parted i c p.0 j d q.0 w) v q.2 (sound_parted w i c output.index p.0 j d input.index q.0 S t p.1 u q.1 n))))

-- ---- notes

taken_keeps : (w v : World) (i : ℕ) (c : Component) (note : Note) (n : ℕ) (taken : Held → Taken) (result : Result Took OmxError) → TakesHeader w i c note n taken result v
    → Sound w → slice_get w.components i ≡ Some c → slice_get c.notes 0 ≡ Some note → IsNoteOf note n → Sound v
taken_keeps w v i c note n taken result h S t e Q =
    let r = there_is (find_header n w.headers) _ h in
    sound_closes (with_client n (with_given i c note w)) v (r.2).1 (sound_taken w i c note n S t e Q)

take_from_keeps : (w v : World) (i : ℕ) (c : Component) (busy : Bool) (oldest : Option Note) (result : Result Took OmxError) → TakeFrom w i c busy oldest result v
    → Sound w → slice_get w.components i ≡ Some c → slice_get c.notes 0 ≡ oldest → Sound v
take_from_keeps w v i c true oldest result h S t e = stays_sound w v h.1 S
take_from_keeps w v i c false None result h S t e = stays_sound w v h.1 S
take_from_keeps w v i c false (Some (notes.Told event)) result h S t e = sound_closes (with_given i c (notes.Told event) w) v h.1 (sound_given w i c event S t e)
take_from_keeps w v i c false (Some (notes.EmptyDone n)) result h S t e = taken_keeps w v i c (notes.EmptyDone n) n (λ x. TakenEmpty x) result h S t e (note_emptied n)
take_from_keeps w v i c false (Some (notes.FillDone n)) result h S t e = taken_keeps w v i c (notes.FillDone n) n (λ x. TakenFilled x) result h S t e (note_filled n)

take_keeps : (w v : World) (h : Handle) (result : Result Took OmxError) → TakeNote w h result v → Sound w → Sound v
take_keeps w v h result r S = resolving_keeps plain w v h result _ S r (λ i c t a. take_from_keeps w v i c c.client_out (slice_get c.notes 0) result a S t refl)

end_keeps : (w v : World) (h : Handle) → EndNote w h v → Sound w → Sound v
end_keeps w v h e S =
    let i = there_is (place_of h w.components) _ e in
    let c = there_is (slice_get w.components i.0) (λ c. ClosesTo (with_component i.0 (back_in c) w) v) i.2 in
    sound_closes (with_component i.0 (back_in c.0) w) v c.2 (sound_ended w i.0 c.0 S c.1)

-- ---- headers of tunnels

supply_keeps : (w v : World) (h : Handle) (port : ℕ) (result : Result Acted CallError) → Supply w h port result v → Sound w → Sound v
supply_keeps w v h port result r S = on_port_keeps Omx w v h result port _ S r (λ i c p t e a. acts_keep (supply_idle (look w) c p) result w (with_supplied p w) v a S (λ n. sound_supplied w i c port p S t e n))

release_keeps : (w v : World) (h : Handle) (port : ℕ) (result : Result Acted OmxError) → Release w h port result v → Sound w → Sound v
release_keeps w v h port result r S = on_port_keeps plain w v h result port _ S r (λ i c p t e a. acts_keep (release_idle (look w) c p) result w (front_unmade (in_port (seen w.headers) p) w) v a S (λ n. sound_released w p S))

over_keeps : (w v : World) (h : Handle) (port : ℕ) (result : Result Acted OmxError) → HandOver w h port result v → Sound w → Sound v
over_keeps w v h port result r S = on_port_keeps plain w v h result port _ S r (λ i c p t e a. acts_keep (over_idle (look w) c p) result w (handed_over p w) v a S (λ n. sound_handed_over w i c port p S t e))

pub sound_handed_back : (w : World) (i : ℕ) (c : Component) (index : ℕ) (p : Port) (o : Option Link) → Sound w → slice_get w.components i ≡ Some c → port_of c index ≡ Some p → p.state.link ≡ o → Sound (handed_back i c p o w)
sound_handed_back w i c index p None S t e l = sound_noticed w i c index p S t e l
sound_handed_back w i c index p (Some link) S t e l = sound_returned w i c index p link S t e l

back_keeps : (w v : World) (h : Handle) (port : ℕ) (result : Result Acted OmxError) → HandBack w h port result v → Sound w → Sound v
back_keeps w v h port result r S = on_port_keeps plain w v h result port _ S r (λ i c p t e a. acts_keep (back_idle (look w) c p) result w (handed_back i c p p.state.link w) v a S (λ n. sound_handed_back w i c port p p.state.link S t e refl))

-- ---- works

claims_keep : (w v : World) (i : ℕ) (c : Component) (o : Option Claimed) (result : Result Claimed OmxError) → claim_idle (look w) c ≡ o → Claims o i c w result v → Sound w → slice_get w.components i ≡ Some c → Sound v
claims_keep w v i c (Some idle) result e h S t = stays_sound w v h.1 S
claims_keep w v i c None result e h S t = sound_closes (with_work i c (work_of (seen w.headers) c) w) v h.1 (sound_claimed w i c S t e)

claim_keeps : (w v : World) (h : Handle) (result : Result Claimed OmxError) → Claim w h result v → Sound w → Sound v
claim_keeps w v h result r S = resolving_keeps plain w v h result _ S r (λ i c t a. claims_keep w v i c (claim_idle (look w) c) result refl a S t)

-- the component whose work comes back, by the number of its place
finish_keeps : (w v : World) (done : WorkDone) → Meets w (acts.Finish done) → Finish w done v → Sound w → Sound v
finish_keeps w v done M h S =
    let i = there_is (place_numbered done.component w.components) _ h in
    let c = there_is (slice_get w.components i.0) (λ c. ClosesTo (finished i.0 c done w) v) i.2 in
    let m : MatchOption (c.0).work ⊥ (λ work. IsDoneOf w c.0 work done) = rw (i.1, c.1) at M in
    let x = there_is (c.0).work (λ work. IsDoneOf w c.0 work done) m in
    sound_closes (finished i.0 c.0 done w) v c.2 (sound_finished w i.0 c.0 x.0 done S c.1 x.1 x.2)

-- ---- all

-- The header that is handed in is with the client, and a work that comes back was out and done by one step: all that a sound world asks of
-- the caller.
abbrev pub HandsIn : World → Act → Type 0
HandsIn w (acts.FreeBuffer h port header) = IsWithClient header (look w)
HandsIn w (acts.EmptyThisBuffer h port header) = IsWithClient header.number (look w)
HandsIn w (acts.FillThisBuffer h port header) = IsWithClient header.number (look w)
HandsIn w (acts.Finish done) = Meets w (acts.Finish done)
HandsIn w _ = Unit {0}

held_with : (o : Option HeaderState) (header : Held) → MatchOption o ⊥ (λ s. (s.owner ≡ owners.Client) × (header.size ≡ s.size) × (length header.content ≤ s.size)) → MatchOption o ⊥ (λ s. s.owner ≡ owners.Client)
held_with None header h = h
held_with (Some s) header h = h.0

pub hands_in : (w : World) (a : Act) → Meets w a → HandsIn w a
hands_in w (acts.FreeBuffer h port header) M = M
hands_in w (acts.EmptyThisBuffer h port header) M = held_with ((look w).headers.header header.number) header M
hands_in w (acts.FillThisBuffer h port header) M = held_with ((look w).headers.header header.number) header M
hands_in w (acts.Finish done) M = M
hands_in w _ M = tt

pub sound_after : (w v : World) (a : Act) (r : Reply) → HandsIn w a → Step w a r v → Sound w → Sound v
sound_after w v (acts.GetHandle name) (acts.Got result) M s S = get_keeps w v name result s S
sound_after w v (acts.FreeHandle h) (acts.Removed result) M s S = free_keeps w v h result s S
sound_after w v (acts.Attach h file) (acts.Plain result) M s S = attach_keeps w v h file result s S
sound_after w v (acts.GetState h) (acts.Stated result) M s S = looks_keep (state_answer h (look w)) result w v s S
sound_after w v (acts.PortView h port) (acts.Viewed result) M s S = looks_keep (view_answer h port (look w)) result w v s S
sound_after w v (acts.Progress h) (acts.Progressed result) M s S = looks_keep (progress_answer h w) result w v s S
sound_after w v (acts.GetParameter h key) (acts.Parameter result) M s S = looks_keep (parameter_answer h key false (look w)) result w v s S
sound_after w v (acts.GetConfig h key) (acts.Parameter result) M s S = looks_keep (parameter_answer h key true (look w)) result w v s S
sound_after w v (acts.SetParameter h key value) (acts.Plain result) M s S = set_keeps w v h key value result s S
sound_after w v (acts.SetConfig h key value) (acts.Plain result) M s S = configure_keeps w v h key value result s S
sound_after w v (acts.SetupTunnel output input) (acts.Joined result) M s S = setup_keeps w v output input result s S
sound_after w v (acts.DropTunnel output input) (acts.Plain result) M s S = drop_keeps w v output input result s S
sound_after w v (acts.SendCommand h command) (acts.Plain result) M s S = send_keeps w v h command result s S
sound_after w v (acts.RunCommand h) (acts.Acted result) M s S = run_keeps w v h result s S
sound_after w v (acts.AllocateBuffer h port) (acts.Allocated result) M s S = allocate_keeps w v h port result s S
sound_after w v (acts.UseBuffer h port bytes) (acts.Used result) M s S = use_keeps w v h port bytes result s S
sound_after w v (acts.FreeBuffer h port header) (acts.Freed result) M s S = unmake_keeps w v h port header result M s S
sound_after w v (acts.EmptyThisBuffer h port header) (acts.Plain result) M s S = empty_keeps w v h port header result M s S
sound_after w v (acts.FillThisBuffer h port header) (acts.Plain result) M s S = fill_keeps w v h port header result M s S
sound_after w v (acts.TakeNote h) (acts.Took result) M s S = take_keeps w v h result s S
sound_after w v (acts.EndNote h progress) acts.Ended M s S = end_keeps w v h s S
sound_after w v (acts.Supply h port) (acts.Supplied result) M s S = supply_keeps w v h port result s S
sound_after w v (acts.Release h port) (acts.Acted result) M s S = release_keeps w v h port result s S
sound_after w v (acts.HandOver h port) (acts.Acted result) M s S = over_keeps w v h port result s S
sound_after w v (acts.HandBack h port) (acts.Acted result) M s S = back_keeps w v h port result s S
sound_after w v acts.Grant (acts.Granted answer) M s S = grant_keeps w v answer s S
sound_after w v acts.Preempt (acts.Preempted answer) M s S = preempt_keeps w v answer s S
sound_after w v (acts.Claim h) (acts.Claimed result) M s S = claim_keeps w v h result s S
sound_after w v (acts.Finish done) acts.Finished M s S = finish_keeps w v done M s S
sound_after w v _ _ M s S = absurd s

pub sound_step : (w v : World) (a : Act) (r : Reply) → Meets w a → Step w a r v → Sound w → Sound v
sound_step w v a r M s S = sound_after w v a r (hands_in w a M) s S

pub sound_run_of : (w v : World) (xs : List (Act × Reply)) → Run w xs v → Sound w → Sound v
sound_run_of w v [] h S = stays_sound w v h S
sound_run_of w v (x ∷ xs) (mid, meets, step, rest) S = sound_run_of mid v xs rest (sound_step w mid x.0 x.1 meets step S)

-- the world in which nothing was made is sound
pub sound_none : (key units : ℕ) → Sound (no_world key units)
sound_none key units = record {
  rising = omega arith;
  components = All-nil _;
  connected = All-nil _;
  once = tt;
  numbered = All-nil _;
  placed = All-nil _;
  units = All-nil _;
  enough = omega arith;
  apart = λ i j n c d e f p q. absurd cc;
  streams = refl;
}
