-- Each act has an answer.
use Rattle.std.proofs.Common.{◌≡◌, ℕ, ◌≤◌, Bool, true, false, nat_le, List, [], ◌∷◌, drop, length, slice_get, Option, Some, None, option_and_then, Result, Ok, Err, MatchOption, refl, sym, arith}
use Rattle.omx_types.specs.declared.handle.Handle.{Handle}
use Rattle.omx_types.specs.declared.handle.PortId.{PortId}
use Rattle.omx_types.specs.declared.command.Command.{Command}
use Rattle.omx_types.specs.declared.command.Note.{Note}
use Rattle.omx_types.specs.declared.command.Note.TheVariants as notes
use Rattle.omx_types.specs.declared.error.OmxError.{OmxError}
use Rattle.omx_types.specs.declared.error.CallError.{CallError}
use Rattle.omx_types.specs.declared.error.CallError.TheVariants.{Omx}
use Rattle.omx_types.specs.declared.param.Param.{Param}
use Rattle.omx_types.specs.declared.param.ParamKey.{ParamKey}
use Rattle.omx_types.specs.declared.param.Supplier.{Supplier}
use Rattle.il_machine.specs.declared.answer.Granted.TheVariants as granted
use Rattle.il_machine.specs.declared.answer.Preempted.TheVariants as preempted
use Rattle.il_machine.specs.declared.answer.Why.{Why}
use Rattle.il_machine.specs.declared.answer.Why.TheVariants as why
use Rattle.il_machine.specs.declared.answer.Progress.{Progress}
use Rattle.il_machine.specs.declared.header.HeaderState.{HeaderState}
use Rattle.il_machine.specs.declared.port.Port.{Port}
use Rattle.il_machine.specs.World.{Component, HeaderRecord, World, with_component, place_of, place_numbered, component_numbered, port_of}
use Rattle.il_machine.specs.Headers.{find_header, seen}
use Rattle.il_machine.specs.Kinds.{kind_of}
use Rattle.il_machine.specs.Look.{look}
use Rattle.il_machine.specs.Due.{ClosesTo}
use Rattle.il_machine.specs.Answers.{Acts, Answers, AnswersAs, AnswersOrMemory, Resolving, component_named, plain}
use Rattle.il_machine.specs.Census.{note_numbers, times}
use Rattle.il_machine.specs.Components.{FreeHandle, free_refusal, get_handle_refusal, is_vacant, progress_answer, progress_of, state_answer, view_answer, with_new_component, without_component}
use Rattle.il_machine.specs.Parameters.{SetParameter, SetConfig, parameter_answer, set_config_refusal, set_parameter_refusal, with_value}
use Rattle.il_machine.specs.Tunnels.{BothPorts, DropTunnel, SetupTunnel, agreed_of, both_joined, both_parted, drop_refusal, setup_refusal}
use Rattle.il_machine.specs.Commands.{RunCommand, SendCommand, run_front, run_idle, send_refusal, sent}
use Rattle.il_machine.specs.Buffers.{AllocateBuffer, AtPort, AtState, EmptyThisBuffer, FillThisBuffer, FreeBuffer, Held, IsHeldByClient, IsWithClient, UseBuffer, allocate_refusal, client_header, empty_refusal, fill_refusal, free_buffer_refusal, held, held_of, load_in, unpopulated, use_refusal, with_header, with_todo, without_header}
use Rattle.il_machine.specs.Headers.{empty_load, loaded, unloaded}
use Rattle.il_machine.specs.Notes.{EndNote, TakeFrom, TakeNote, TakenEmpty, TakenEvent, TakenFilled, TakesHeader, Taken, Took, TookBusy, TookNone, TookNote, back_in, with_client, with_given}
use Rattle.il_machine.specs.Flow.{HandBack, HandOver, Release, Supply, back_idle, front_unmade, handed_back, handed_over, in_port, over_idle, release_idle, supply_idle, with_supplied}
use Rattle.il_machine.specs.Units.{Grant, Grants, Preempt, Preempts, at_one, first_waiter, grant_idle, granted_units, preempt_idle, preempted_units, coming_units, lacks_event_room, need_of, victim, weakest, with_changed}
use Rattle.il_machine.specs.Lists.{first_of_these}
use Rattle.il_machine.specs.Files.{Attach, Offered, attach_refusal, with_file}
use Rattle.il_machine.specs.Claims.{Claim, Claimed, ClaimedWork, Claims, claim_idle, seen_work, with_work, work_of}
use Rattle.il_machine.specs.Stepping.{IsDoneOf, WorkDone}
use Rattle.il_machine.specs.Finishing.{Finish, finished}
use Rattle.il_machine.specs.Acts.{Act, Reply}
use Rattle.il_machine.specs.Acts as acts
use Rattle.il_machine.specs.Run.{Meets, Step}
use Rattle.il_machine.specs.Sound.{Sound}
use Rattle.machine_laws.proofs.Ending.{closes_somewhere}
use Rattle.machine_laws.proofs.Facts.{noticed_there}
use Rattle.machine_laws.proofs.Accepting.{passed}
use Rattle.machine_laws.proofs.Keys.{is_there, there_is}
use Rattle.machine_laws.proofs.Listed.{times_self}
use Rattle.machine_laws.proofs.Notices.{IsNoteOf, first_is, note_emptied, note_filled}
use Rattle.history_laws.specs.Determined.{WantsMemory}
use Rattle.answer_laws.proofs.Forms.{Has, acted_so, answers, at_port, closed_with, just_closed, looking, on_port, resolving}
use Rattle.answer_laws.proofs.Refusals.{allocate_port, drop_ports, empty_port, fill_port, free_port, name_kind, setup_ports, use_port}
use Rattle.answer_laws.proofs.Vacant.{vacant}

and_then_there : {X Y : Type 0} (f : X → Option Y) (o : Option X) (y : Y) → option_and_then f o ≡ Some y → (x : X) × (o ≡ Some x) × (f x ≡ Some y)
and_then_there f None y e = absurd cc
and_then_there f (Some x) y e = (x, refl, e)

-- ---- components

new_handle : (w : World) (name : List ℕ) (refusal : Option OmxError) → refusal ≡ get_handle_refusal (look w) name
    → (r : Result Handle CallError) × (v : World) × AnswersOrMemory refusal r w v (λ h.
    (h.generation ≡ w.numbered) × (is_vacant h.slot w.components ≡ true) × MatchOption (kind_of name) ⊥ (λ kind. ClosesTo (with_new_component h kind w) v))
    × (WantsMemory (acts.Got r) → ⊥)
new_handle w name (Some error) is = (Err (Omx error), w, (refl, refl), λ wants. wants)
new_handle w name None is =
    let kind = name_kind (look w) name (sym is) in
    let slot = vacant w.components in
    let h : Handle = record { slot = slot.0; generation = w.numbered } in
    let c = closes_somewhere (with_new_component h kind.0 w) in
    (Ok h, c.0, (refl, slot.1, is_there (kind_of name) (λ kind. ClosesTo (with_new_component h kind w) c.0) kind.0 kind.1 c.1), λ wants. wants)

free_handle : (w : World) (h : Handle) → Has (FreeHandle w h)
free_handle w h = resolving plain w h
    (λ r v i c. Answers (free_refusal (look w).headers c) r w v (λ file. (file ≡ c.file) × ClosesTo (without_component i c w) v))
    (λ i c at. answers plain w (free_refusal (look w).headers c) (λ v file. (file ≡ c.file) × ClosesTo (without_component i c w) v) (λ none. closed_with c.file (without_component i c w)))

attach : (w : World) (h : Handle) (file : Offered) → Has (Attach w h file)
attach w h file = resolving plain w h
    (λ r v i c. Answers (attach_refusal c file) r w v (λ _. ClosesTo (with_file i c file w) v))
    (λ i c at. answers plain w (attach_refusal c file) (λ v _. ClosesTo (with_file i c file w) v) (λ none. just_closed (with_file i c file w)))

-- ---- parameters, tunnels and commands

set_parameter : (w : World) (h : Handle) (key : ParamKey) (value : Param) → Has (SetParameter w h key value)
set_parameter w h key value = resolving plain w h
    (λ r v i c. Answers (set_parameter_refusal (look w).headers c key value) r w v (λ _. ClosesTo (with_component i (with_value key value c) w) v))
    (λ i c at. answers plain w (set_parameter_refusal (look w).headers c key value) (λ v _. ClosesTo (with_component i (with_value key value c) w) v) (λ none. just_closed (with_component i (with_value key value c) w)))

set_config : (w : World) (h : Handle) (key : ParamKey) (value : Param) → Has (SetConfig w h key value)
set_config w h key value = resolving plain w h
    (λ r v i c. Answers (set_config_refusal c key value) r w v (λ _. ClosesTo (with_component i (with_value key value c) w) v))
    (λ i c at. answers plain w (set_config_refusal c key value) (λ v _. ClosesTo (with_component i (with_value key value c) w) v) (λ none. just_closed (with_component i (with_value key value c) w)))

both_there : (o u : Option Port) (Then : Port → Port → Type 0) (p q : Port) → o ≡ Some p → u ≡ Some q → Then p q → BothPorts o u Then
both_there o u Then p q e f t = is_there o (λ a. MatchOption u ⊥ (λ b. Then a b)) p e (is_there u (λ b. Then p b) q f t)

setup_tunnel : (w : World) (output input : PortId) → Has (SetupTunnel w output input)
setup_tunnel w output input = resolving plain w output.handle
    (λ r v i c. Resolving plain w input.handle r v (λ j d.
    Answers (setup_refusal (look w).headers c d (port_of c output.index) (port_of d input.index)) r w v (λ supplier. BothPorts (port_of c output.index) (port_of d input.index) (λ a b.
    (supplier ≡ agreed_of a b) × ClosesTo (both_joined supplier i c a j d b w) v))))
    (λ i c at. resolving plain w input.handle
    (λ r v j d. Answers (setup_refusal (look w).headers c d (port_of c output.index) (port_of d input.index)) r w v (λ supplier. BothPorts (port_of c output.index) (port_of d input.index) (λ a b.
    (supplier ≡ agreed_of a b) × ClosesTo (both_joined supplier i c a j d b w) v)))
    (λ j d to. answers plain w (setup_refusal (look w).headers c d (port_of c output.index) (port_of d input.index))
    (λ v supplier. BothPorts (port_of c output.index) (port_of d input.index) (λ a b. (supplier ≡ agreed_of a b) × ClosesTo (both_joined supplier i c a j d b w) v))
    (λ none.
    let there = setup_ports (look w).headers c d (port_of c output.index) (port_of d input.index) none in
    let p : Port = there.0.0 in
    let q : Port = there.1.0 in
    let s : Supplier = agreed_of p q in
    let z = closes_somewhere (both_joined s i c p j d q w) in
    (s, z.0, both_there (port_of c output.index) (port_of d input.index) (λ a b. (s ≡ agreed_of a b) × ClosesTo (both_joined s i c a j d b w) z.0) p q there.0.1 there.1.1 (refl, z.1)))))

drop_tunnel : (w : World) (output input : PortId) → Has (DropTunnel w output input)
drop_tunnel w output input = resolving plain w output.handle
    (λ r v i c. Resolving plain w input.handle r v (λ j d.
    Answers (drop_refusal (look w).headers (port_of c output.index) (port_of d input.index)) r w v (λ _. BothPorts (port_of c output.index) (port_of d input.index) (λ a b.
    ClosesTo (both_parted i c a j d b w) v))))
    (λ i c at. resolving plain w input.handle
    (λ r v j d. Answers (drop_refusal (look w).headers (port_of c output.index) (port_of d input.index)) r w v (λ _. BothPorts (port_of c output.index) (port_of d input.index) (λ a b.
    ClosesTo (both_parted i c a j d b w) v)))
    (λ j d to. answers plain w (drop_refusal (look w).headers (port_of c output.index) (port_of d input.index))
    (λ v _. BothPorts (port_of c output.index) (port_of d input.index) (λ a b. ClosesTo (both_parted i c a j d b w) v))
    (λ none.
    let there = drop_ports (look w).headers (port_of c output.index) (port_of d input.index) none in
    let p : Port = there.0.0 in
    let q : Port = there.1.0 in
    let z = closes_somewhere (both_parted i c p j d q w) in
    (tt, z.0, both_there (port_of c output.index) (port_of d input.index) (λ a b. ClosesTo (both_parted i c a j d b w) z.0) p q there.0.1 there.1.1 z.1))))

send_command : (w : World) (h : Handle) (command : Command) → Has (SendCommand w h command)
send_command w h command = resolving plain w h
    (λ r v i c. Answers (send_refusal (look w) c command) r w v (λ _. ClosesTo (with_component i (sent command c) w) v))
    (λ i c at. answers plain w (send_refusal (look w) c command) (λ v _. ClosesTo (with_component i (sent command c) w) v) (λ none. just_closed (with_component i (sent command c) w)))

run_command : (w : World) (h : Handle) → Has (RunCommand w h)
run_command w h = resolving plain w h
    (λ r v i c. Acts (run_idle c c.commands) r w (with_component i (run_front (look w) c.commands c) w) v)
    (λ i c at. acted_so (run_idle c c.commands) w (with_component i (run_front (look w) c.commands c) w))

-- ---- headers

allocate_buffer : (w : World) (h : Handle) (port : ℕ) → Has (AllocateBuffer w h port)
allocate_buffer w h port = resolving Omx w h
    (λ r v i c. AnswersAs Omx (allocate_refusal (look w) c (port_of c port)) r w v (λ header. AtPort (port_of c port) (λ p.
    (header ≡ held_of (client_header w.made p false) (empty_load None)) × ClosesTo (with_header (client_header w.made p false) None w) v)))
    (λ i c at. answers Omx w (allocate_refusal (look w) c (port_of c port))
    (λ v header. AtPort (port_of c port) (λ p. (header ≡ held_of (client_header w.made p false) (empty_load None)) × ClosesTo (with_header (client_header w.made p false) None w) v))
    (λ none.
    let p = allocate_port (look w) c (port_of c port) none in
    at_port (port_of c port) (λ (header : Held) v q. (header ≡ held_of (client_header w.made q false) (empty_load None)) × ClosesTo (with_header (client_header w.made q false) None w) v) p.0 p.1
    (closed_with (held_of (client_header w.made p.0 false) (empty_load None)) (with_header (client_header w.made p.0 false) None w))))

use_buffer : (w : World) (h : Handle) (port : ℕ) (bytes : List ℕ) → Has (UseBuffer w h port bytes)
use_buffer w h port bytes = resolving plain w h
    (λ r v i c. Answers (use_refusal (look w) c (port_of c port) (length bytes)) r w v (λ header. AtPort (port_of c port) (λ p.
    (header ≡ held_of (client_header w.made p true) (empty_load (Some bytes))) × ClosesTo (with_header (client_header w.made p true) (Some bytes) w) v)))
    (λ i c at. answers plain w (use_refusal (look w) c (port_of c port) (length bytes))
    (λ v header. AtPort (port_of c port) (λ p. (header ≡ held_of (client_header w.made p true) (empty_load (Some bytes))) × ClosesTo (with_header (client_header w.made p true) (Some bytes) w) v))
    (λ none.
    let p = use_port (look w) c (port_of c port) (length bytes) none in
    at_port (port_of c port) (λ (header : Held) v q. (header ≡ held_of (client_header w.made q true) (empty_load (Some bytes))) × ClosesTo (with_header (client_header w.made q true) (Some bytes) w) v) p.0 p.1
    (closed_with (held_of (client_header w.made p.0 true) (empty_load (Some bytes))) (with_header (client_header w.made p.0 true) (Some bytes) w))))

-- the header that is named is there
at_state : {T : Type 0} (number : ℕ) (w : World) (Then : T → World → HeaderState → Type 0) (s : HeaderState) → (look w).headers.header number ≡ Some s → Has (λ (r : T) v. Then r v s) → Has (λ (r : T) v. AtState number (look w) (λ x. Then r v x))
at_state number w Then s is g = (g.0, g.1, is_there ((look w).headers.header number) (λ x. Then g.0 g.1 x) s is g.2)

free_buffer : (w : World) (h : Handle) (port number : ℕ) → IsWithClient number (look w) → Has (FreeBuffer w h port number)
free_buffer w h port number held =
    let x = there_is ((look w).headers.header number) (λ _. _) held in
    let s : HeaderState = x.0 in
    resolving plain w h
    (λ r v i c. AtState number (look w) (λ s. Answers (free_buffer_refusal c (port_of c port) s) r w v (λ is_clients. AtPort (port_of c port) (λ p.
    (is_clients ≡ s.client_memory) × ClosesTo (without_header number (with_component i (unpopulated p c) w)) v))))
    (λ i c at. at_state number w
    (λ r v s. Answers (free_buffer_refusal c (port_of c port) s) r w v (λ is_clients. AtPort (port_of c port) (λ p.
    (is_clients ≡ s.client_memory) × ClosesTo (without_header number (with_component i (unpopulated p c) w)) v)))
    s x.1
    (answers plain w (free_buffer_refusal c (port_of c port) s)
    (λ v is_clients. AtPort (port_of c port) (λ p. (is_clients ≡ s.client_memory) × ClosesTo (without_header number (with_component i (unpopulated p c) w)) v))
    (λ none.
    let p = free_port c (port_of c port) s none in
    at_port (port_of c port) (λ (b : Bool) v q. (b ≡ s.client_memory) × ClosesTo (without_header number (with_component i (unpopulated q c) w)) v) p.0 p.1
    (closed_with s.client_memory (without_header number (with_component i (unpopulated p.0 c) w))))))

empty_this_buffer : (w : World) (h : Handle) (port : ℕ) (header : Held) → IsHeldByClient header (look w) → Has (EmptyThisBuffer w h port header)
empty_this_buffer w h port header with_client =
    let x = there_is ((look w).headers.header header.number) (λ _. _) with_client in
    let s : HeaderState = x.0 in
    resolving plain w h
    (λ r v i c. AtState header.number (look w) (λ s. Answers (empty_refusal c (port_of c port) s header.content) r w v (λ _. AtPort (port_of c port) (λ p.
    ClosesTo (with_todo p.key header.number (loaded (load_in header)) w) v))))
    (λ i c at. at_state header.number w
    (λ r v s. Answers (empty_refusal c (port_of c port) s header.content) r w v (λ _. AtPort (port_of c port) (λ p.
    ClosesTo (with_todo p.key header.number (loaded (load_in header)) w) v)))
    s x.1
    (answers plain w (empty_refusal c (port_of c port) s header.content)
    (λ v _. AtPort (port_of c port) (λ p. ClosesTo (with_todo p.key header.number (loaded (load_in header)) w) v))
    (λ none.
    let p = empty_port c (port_of c port) s header.content none in
    at_port (port_of c port) (λ (_ : Unit {0}) v q. ClosesTo (with_todo q.key header.number (loaded (load_in header)) w) v) p.0 p.1
    (just_closed (with_todo (p.0).key header.number (loaded (load_in header)) w)))))

fill_this_buffer : (w : World) (h : Handle) (port : ℕ) (header : Held) → IsHeldByClient header (look w) → Has (FillThisBuffer w h port header)
fill_this_buffer w h port header with_client =
    let x = there_is ((look w).headers.header header.number) (λ _. _) with_client in
    let s : HeaderState = x.0 in
    resolving plain w h
    (λ r v i c. AtState header.number (look w) (λ s. Answers (fill_refusal c (port_of c port) s) r w v (λ _. AtPort (port_of c port) (λ p.
    ClosesTo (with_todo p.key header.number (loaded (unloaded (load_in header))) w) v))))
    (λ i c at. at_state header.number w
    (λ r v s. Answers (fill_refusal c (port_of c port) s) r w v (λ _. AtPort (port_of c port) (λ p.
    ClosesTo (with_todo p.key header.number (loaded (unloaded (load_in header))) w) v)))
    s x.1
    (answers plain w (fill_refusal c (port_of c port) s)
    (λ v _. AtPort (port_of c port) (λ p. ClosesTo (with_todo p.key header.number (loaded (unloaded (load_in header))) w) v))
    (λ none.
    let p = fill_port c (port_of c port) s none in
    at_port (port_of c port) (λ (_ : Unit {0}) v q. ClosesTo (with_todo q.key header.number (loaded (unloaded (load_in header))) w) v) p.0 p.1
    (just_closed (with_todo (p.0).key header.number (loaded (unloaded (load_in header))) w)))))

-- ---- notes

-- the header of the oldest note is there
front_there : (w : World) (i : ℕ) (c : Component) (note : Note) (n : ℕ) → Sound w → slice_get w.components i ≡ Some c → slice_get c.notes 0 ≡ Some note → IsNoteOf note n → (r : HeaderRecord) × (find_header n w.headers ≡ Some r)
front_there w i c note n S at e Q =
    let q : note_numbers c.notes ≡ n ∷ note_numbers (drop 1 c.notes) = rw (first_is c.notes note e) (Q.numbers (drop 1 c.notes)) in
    let one : 1 ≤ times n (note_numbers c.notes) = rw q (omega (arith, times_self n (note_numbers (drop 1 c.notes)))) in
    let x = noticed_there w i c n S at one in
    (x.header, x.found)

taking_header : (w : World) (i : ℕ) (c : Component) (note : Note) (n : ℕ) (taken : Held → Taken) → Sound w → slice_get w.components i ≡ Some c → slice_get c.notes 0 ≡ Some note → IsNoteOf note n
    → Has (TakesHeader w i c note n taken)
taking_header w i c note n taken S at e Q =
    let x = front_there w i c note n S at e Q in
    let z = closes_somewhere (with_client n (with_given i c note w)) in
    let r : Result Took OmxError = Ok (TookNote (taken (held x.0))) in
    (r, z.0, is_there (find_header n w.headers) (λ y. (r ≡ Ok (TookNote (taken (held y)))) × ClosesTo (with_client n (with_given i c note w)) z.0) x.0 x.1 (refl, z.1))

take_from : (w : World) (i : ℕ) (c : Component) (out : Bool) (o : Option Note) → Sound w → slice_get w.components i ≡ Some c → slice_get c.notes 0 ≡ o → Has (TakeFrom w i c out o)
take_from w i c true o S at e = (Ok TookBusy, w, (refl, refl))
take_from w i c false None S at e = (Ok TookNone, w, (refl, refl))
take_from w i c false (Some (notes.Told event)) S at e =
    let z = closes_somewhere (with_given i c (notes.Told event) w) in
    (Ok (TookNote (TakenEvent event)), z.0, (refl, z.1))
take_from w i c false (Some (notes.EmptyDone n)) S at e = taking_header w i c (notes.EmptyDone n) n TakenEmpty S at e (note_emptied n)
take_from w i c false (Some (notes.FillDone n)) S at e = taking_header w i c (notes.FillDone n) n TakenFilled S at e (note_filled n)

take_note : (w : World) (h : Handle) → Sound w → Has (TakeNote w h)
take_note w h S = resolving plain w h
    (λ r v i c. TakeFrom w i c c.client_out (slice_get c.notes 0) r v)
    (λ i c at. take_from w i c c.client_out (slice_get c.notes 0) S at refl)

end_note : (w : World) (h : Handle) (progress : Progress) → Meets w (acts.EndNote h progress) → (v : World) × EndNote w h v
end_note w h progress M =
    let o = there_is (component_named h w.components) (λ c. (c.client_out ≡ true) × (progress ≡ progress_of c w)) M in
    let at = and_then_there (slice_get w.components) (place_of h w.components) o.0 o.1 in
    let z = closes_somewhere (with_component at.0 (back_in o.0) w) in (
      z.0,
      is_there (place_of h w.components) (λ i. MatchOption (slice_get w.components i) ⊥ (λ c. ClosesTo (with_component i (back_in c) w) z.0)) at.0 at.1
          (is_there (slice_get w.components at.0) (λ c. ClosesTo (with_component at.0 (back_in c) w) z.0) o.0 at.2 z.1),
    )

-- ---- flow

supply : (w : World) (h : Handle) (port : ℕ) → Has (Supply w h port)
supply w h port = on_port Omx w h port (λ r v i c p. Acts (supply_idle (look w) c p) r w (with_supplied p w) v) (λ i c p. acted_so (supply_idle (look w) c p) w (with_supplied p w))

release : (w : World) (h : Handle) (port : ℕ) → Has (Release w h port)
release w h port = on_port plain w h port (λ r v i c p. Acts (release_idle (look w) c p) r w (front_unmade (in_port (seen w.headers) p) w) v) (λ i c p. acted_so (release_idle (look w) c p) w (front_unmade (in_port (seen w.headers) p) w))

hand_over : (w : World) (h : Handle) (port : ℕ) → Has (HandOver w h port)
hand_over w h port = on_port plain w h port (λ r v i c p. Acts (over_idle (look w) c p) r w (handed_over p w) v) (λ i c p. acted_so (over_idle (look w) c p) w (handed_over p w))

hand_back : (w : World) (h : Handle) (port : ℕ) → Has (HandBack w h port)
hand_back w h port = on_port plain w h port (λ r v i c p. Acts (back_idle (look w) c p) r w (handed_back i c p p.state.link w) v) (λ i c p. acted_so (back_idle (look w) c p) w (handed_back i c p p.state.link w))

-- ---- units

granting : (w : World) (reason : Option Why) (waiter : Option Component) → (reason ≡ None → (c : Component) × (waiter ≡ Some c)) → Has (Grants reason waiter w)
granting w (Some why) waiter there = (granted.Idle why, w, (refl, refl))
granting w None None there = let x = there refl in absurd cc
granting w None (Some c) there = let z = closes_somewhere (with_changed granted_units c w) in (granted.Granted c.handle, z.0, (refl, z.1))

waiter_there : (o : Option Component) (otherwise : Why) (tests : Component → List (Bool × Why)) → first_of_these (at_one o otherwise tests) ≡ None → (c : Component) × (o ≡ Some c)
waiter_there None otherwise tests e = absurd cc
waiter_there (Some c) otherwise tests e = (c, refl)

grant : (w : World) → Has (Grant w)
grant w = granting w (grant_idle (look w)) (first_waiter w.components) (λ none. waiter_there (first_waiter w.components) _ _ none)

preempting : (w : World) (reason : Option Why) (weak : Option Component) → (reason ≡ None → (c : Component) × (weak ≡ Some c)) → Has (Preempts reason weak w)
preempting w (Some why) weak there = (preempted.Idle why, w, (refl, refl))
preempting w None None there = let x = there refl in absurd cc
preempting w None (Some c) there = let z = closes_somewhere (with_changed preempted_units c w) in (preempted.Victim c.handle, z.0, (refl, z.1))

weak_there : {E : Type 0} (b : Bool) (x : E) (rest : List (Bool × E)) → first_of_these ((b, x) ∷ rest) ≡ None → first_of_these rest ≡ None
weak_there b x rest e = (passed b x (first_of_these rest) e).1

victim_there : (cs : List Component) (o : Option Component) (enough : Component → Bool) (x : Component → Why) (tests : Component → List (Bool × Why))
    → first_of_these (at_one o why.NoWaiter (λ c. (enough c, x c) ∷ at_one (weakest c cs) why.NoVictim tests)) ≡ None
    → (c : Component) × (option_and_then (λ waiter. weakest waiter cs) o ≡ Some c)
victim_there cs None enough x tests e = absurd cc
victim_there cs (Some c) enough x tests e = waiter_there (weakest c cs) why.NoVictim tests (weak_there (enough c) (x c) (at_one (weakest c cs) why.NoVictim tests) e)

preempt : (w : World) → Has (Preempt w)
preempt w = preempting w (preempt_idle (look w)) (victim w.components) (λ none.
    victim_there w.components (first_waiter w.components) (λ c. nat_le (need_of c) (coming_units (look w))) (λ c. why.Enough (coming_units (look w)) (need_of c)) (λ d. lacks_event_room d ∷ []) none)

-- ---- works

claiming : (w : World) (i : ℕ) (c : Component) (idle : Option Claimed) → Has (Claims idle i c w)
claiming w i c (Some answer) = (Ok answer, w, (refl, refl))
claiming w i c None =
    let z = closes_somewhere (with_work i c (work_of (seen w.headers) c) w) in
    (Ok (ClaimedWork (seen_work c (work_of (seen w.headers) c) w.headers)), z.0, (refl, z.1))

claim : (w : World) (h : Handle) → Has (Claim w h)
claim w h = resolving plain w h (λ r v i c. Claims (claim_idle (look w) c) i c w r v) (λ i c at. claiming w i c (claim_idle (look w) c))

finish : (w : World) (done : WorkDone) → Meets w (acts.Finish done) → (v : World) × Finish w done v
finish w done M =
    let o = there_is (component_numbered done.component w) (λ c. MatchOption c.work ⊥ (λ work. IsDoneOf w c work done)) M in
    let at = and_then_there (slice_get w.components) (place_numbered done.component w.components) o.0 o.1 in
    let z = closes_somewhere (finished at.0 o.0 done w) in (
      z.0,
      is_there (place_numbered done.component w.components) (λ i. MatchOption (slice_get w.components i) ⊥ (λ c. ClosesTo (finished i c done w) z.0)) at.0 at.1
          (is_there (slice_get w.components at.0) (λ c. ClosesTo (finished at.0 c done w) z.0) o.0 at.2 z.1),
    )

-- ---- each act

-- an answer that isn't want of memory
abbrev IsAnswered : World → Act → Type 0
IsAnswered w a = (r : Reply) × (v : World) × Step w a r v × (WantsMemory r → ⊥)

pub answered : (w : World) (a : Act) → Sound w → Meets w a → IsAnswered w a
answered w (acts.GetHandle name) S M = let x = new_handle w name (get_handle_refusal (look w) name) refl in (acts.Got x.0, x.1, x.2, x.3)
answered w (acts.FreeHandle h) S M = let x = free_handle w h in (acts.Removed x.0, x.1, x.2, λ wants. wants)
answered w (acts.Attach h file) S M = let x = attach w h file in (acts.Plain x.0, x.1, x.2, λ wants. wants)
answered w (acts.GetState h) S M = let x = looking (state_answer h (look w)) w in (acts.Stated x.0, x.1, x.2, λ wants. wants)
answered w (acts.PortView h port) S M = let x = looking (view_answer h port (look w)) w in (acts.Viewed x.0, x.1, x.2, λ wants. wants)
answered w (acts.Progress h) S M = let x = looking (progress_answer h w) w in (acts.Progressed x.0, x.1, x.2, λ wants. wants)
answered w (acts.GetParameter h key) S M = let x = looking (parameter_answer h key false (look w)) w in (acts.Parameter x.0, x.1, x.2, λ wants. wants)
answered w (acts.GetConfig h key) S M = let x = looking (parameter_answer h key true (look w)) w in (acts.Parameter x.0, x.1, x.2, λ wants. wants)
answered w (acts.SetParameter h key value) S M = let x = set_parameter w h key value in (acts.Plain x.0, x.1, x.2, λ wants. wants)
answered w (acts.SetConfig h key value) S M = let x = set_config w h key value in (acts.Plain x.0, x.1, x.2, λ wants. wants)
answered w (acts.SetupTunnel output input) S M = let x = setup_tunnel w output input in (acts.Joined x.0, x.1, x.2, λ wants. wants)
answered w (acts.DropTunnel output input) S M = let x = drop_tunnel w output input in (acts.Plain x.0, x.1, x.2, λ wants. wants)
answered w (acts.SendCommand h command) S M = let x = send_command w h command in (acts.Plain x.0, x.1, x.2, λ wants. wants)
answered w (acts.RunCommand h) S M = let x = run_command w h in (acts.Acted x.0, x.1, x.2, λ wants. wants)
answered w (acts.AllocateBuffer h port) S M = let x = allocate_buffer w h port in (acts.Allocated x.0, x.1, x.2, λ wants. wants)
answered w (acts.UseBuffer h port bytes) S M = let x = use_buffer w h port bytes in (acts.Used x.0, x.1, x.2, λ wants. wants)
answered w (acts.FreeBuffer h port header) S M = let x = free_buffer w h port header M in (acts.Freed x.0, x.1, x.2, λ wants. wants)
answered w (acts.EmptyThisBuffer h port header) S M = let x = empty_this_buffer w h port header M in (acts.Plain x.0, x.1, x.2, λ wants. wants)
answered w (acts.FillThisBuffer h port header) S M = let x = fill_this_buffer w h port header M in (acts.Plain x.0, x.1, x.2, λ wants. wants)
answered w (acts.TakeNote h) S M = let x = take_note w h S in (acts.Took x.0, x.1, x.2, λ wants. wants)
answered w (acts.EndNote h progress) S M = let x = end_note w h progress M in (acts.Ended, x.0, x.1, λ wants. wants)
answered w (acts.Supply h port) S M = let x = supply w h port in (acts.Supplied x.0, x.1, x.2, λ wants. wants)
answered w (acts.Release h port) S M = let x = release w h port in (acts.Acted x.0, x.1, x.2, λ wants. wants)
answered w (acts.HandOver h port) S M = let x = hand_over w h port in (acts.Acted x.0, x.1, x.2, λ wants. wants)
answered w (acts.HandBack h port) S M = let x = hand_back w h port in (acts.Acted x.0, x.1, x.2, λ wants. wants)
answered w acts.Grant S M = let x = grant w in (acts.Granted x.0, x.1, x.2, λ wants. wants)
answered w acts.Preempt S M = let x = preempt w in (acts.Preempted x.0, x.1, x.2, λ wants. wants)
answered w (acts.Claim h) S M = let x = claim w h in (acts.Claimed x.0, x.1, x.2, λ wants. wants)
answered w (acts.Finish done) S M = let x = finish w done M in (acts.Finished, x.0, x.1, λ wants. wants)
