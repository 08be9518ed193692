-- Two results of one call in one world.
use Rattle.std.proofs.Common.{◌≡◌, ℕ, Bool, true, false, List, slice_get, Option, Some, None, Result, Ok, refl, ◌∙◌, ap}
use Rattle.std.specs.Prelude.{length}
use Rattle.omx_types.specs.declared.handle.Handle.{Handle}
use Rattle.omx_types.specs.declared.handle.PortId.{PortId}
use Rattle.omx_types.specs.declared.command.Command.{Command}
use Rattle.omx_types.specs.declared.command.Note.{Note}
use Rattle.omx_types.specs.declared.command.Note.TheVariants as notes
use Rattle.omx_types.specs.declared.error.OmxError.{OmxError}
use Rattle.omx_types.specs.declared.error.CallError.{CallError}
use Rattle.omx_types.specs.declared.error.CallError.TheVariants.{Omx}
use Rattle.omx_types.specs.declared.param.Param.{Param}
use Rattle.omx_types.specs.declared.param.ParamKey.{ParamKey}
use Rattle.omx_types.specs.declared.param.Supplier.{Supplier}
use Rattle.part_api.specs.declared.attached.Attached.{Attached}
use Rattle.il_machine.specs.declared.answer.Acted.{Acted}
use Rattle.il_machine.specs.World.{Component, Work, World, place_of, place_numbered, with_component, port_of}
use Rattle.il_machine.specs.Headers.{seen, find_header, loaded, empty_load, unloaded}
use Rattle.il_machine.specs.Look.{look}
use Rattle.il_machine.specs.Answers.{plain}
use Rattle.il_machine.specs.Components.{FreeHandle, free_refusal, without_component}
use Rattle.il_machine.specs.Parameters.{SetParameter, SetConfig, set_parameter_refusal, set_config_refusal, with_value}
use Rattle.il_machine.specs.Tunnels.{SetupTunnel, DropTunnel, setup_refusal, drop_refusal, agreed_of, both_joined, both_parted}
use Rattle.il_machine.specs.Commands.{SendCommand, RunCommand, send_refusal, sent, run_idle, run_front}
use Rattle.il_machine.specs.Buffers.{Held, held_of, load_in, AllocateBuffer, UseBuffer, FreeBuffer, EmptyThisBuffer, FillThisBuffer, allocate_refusal, use_refusal, free_buffer_refusal, empty_refusal, fill_refusal, client_header, with_header, unpopulated, without_header, with_todo}
use Rattle.il_machine.specs.Notes.{TakenEvent, TakenEmpty, TakenFilled, Took, TookNote, TookNone, TookBusy, TakeNote, TakeFrom, EndNote, with_given, with_client, back_in}
use Rattle.il_machine.specs.Buffers.{held}
use Rattle.il_machine.specs.Flow.{Supply, Release, HandOver, HandBack, supply_idle, release_idle, over_idle, back_idle, with_supplied, in_port, front_unmade, handed_over, handed_back}
use Rattle.il_machine.specs.Files.{Offered, Attach, attach_refusal, with_file}
use Rattle.il_machine.specs.Claims.{Claimed, ClaimedWork, Claim, Claims, claim_idle, seen_work, work_of, with_work}
use Rattle.il_machine.specs.Stepping.{WorkDone}
use Rattle.il_machine.specs.Finishing.{Finish, finished}
use Rattle.il_machine.specs.Acts as acts
use Rattle.machine_laws.proofs.Closing.{closes_once}
use Rattle.history_laws.specs.Determined.{AreAlike, FirstWants, SecondWants}
use Rattle.history_laws.proofs.NewHandles.{alike}
use Rattle.history_laws.proofs.Twice.{IsSame, both_there, nothing_twice, closed_twice, resolving_twice, on_port_twice, answers_twice, answers_as_twice, acts_twice}

-- ---- components, parameters, tunnels and commands

pub free_handle_twice : (w : World) (h : Handle) (x y : Result (Option Attached) OmxError) (v u : World) → FreeHandle w h x v → FreeHandle w h y u → IsSame x y v u
free_handle_twice w h x y v u a b = resolving_twice plain w h x y v u _ _ (IsSame x y v u) a b (λ s. s) (λ i c p q.
    answers_twice (free_refusal (look w).headers c) w x y v u _ _ (IsSame x y v u) p q (λ s. s) (λ s t e f C D.
    closed_twice (without_component i c w) (Ok c.file) x y v u (e ∙ ap (λ (o : Option Attached). Ok o) C.0) C.1 (f ∙ ap (λ (o : Option Attached). Ok o) D.0) D.1))

pub attach_twice : (w : World) (h : Handle) (file : Offered) (x y : Result (Unit {0}) OmxError) (v u : World) → Attach w h file x v → Attach w h file y u → IsSame x y v u
attach_twice w h file x y v u a b = resolving_twice plain w h x y v u _ _ (IsSame x y v u) a b (λ s. s) (λ i c p q.
    answers_twice (attach_refusal c file) w x y v u _ _ (IsSame x y v u) p q (λ s. s) (λ s t e f C D. closed_twice (with_file i c file w) (Ok tt) x y v u e C f D))

pub set_parameter_twice : (w : World) (h : Handle) (key : ParamKey) (value : Param) (x y : Result (Unit {0}) OmxError) (v u : World) → SetParameter w h key value x v → SetParameter w h key value y u → IsSame x y v u
set_parameter_twice w h key value x y v u a b = resolving_twice plain w h x y v u _ _ (IsSame x y v u) a b (λ s. s) (λ i c p q.
    answers_twice (set_parameter_refusal (look w).headers c key value) w x y v u _ _ (IsSame x y v u) p q (λ s. s) (λ s t e f C D. closed_twice (with_component i (with_value key value c) w) (Ok tt) x y v u e C f D))

pub set_config_twice : (w : World) (h : Handle) (key : ParamKey) (value : Param) (x y : Result (Unit {0}) OmxError) (v u : World) → SetConfig w h key value x v → SetConfig w h key value y u → IsSame x y v u
set_config_twice w h key value x y v u a b = resolving_twice plain w h x y v u _ _ (IsSame x y v u) a b (λ s. s) (λ i c p q.
    answers_twice (set_config_refusal c key value) w x y v u _ _ (IsSame x y v u) p q (λ s. s) (λ s t e f C D. closed_twice (with_component i (with_value key value c) w) (Ok tt) x y v u e C f D))

pub setup_tunnel_twice : (w : World) (output input : PortId) (x y : Result Supplier OmxError) (v u : World) → SetupTunnel w output input x v → SetupTunnel w output input y u → IsSame x y v u
setup_tunnel_twice w output input x y v u a b =
    resolving_twice plain w output.handle x y v u _ _ (IsSame x y v u) a b (λ s. s) (λ i c p q.
    resolving_twice plain w input.handle x y v u _ _ (IsSame x y v u) p q (λ s. s) (λ j d r s.
    answers_twice (setup_refusal (look w).headers c d (port_of c output.index) (port_of d input.index)) w x y v u _ _ (IsSame x y v u) r s (λ z. z) (λ k l e f m n.
    both_there (port_of c output.index) _ _ m n (λ g at gm gn.
    both_there (port_of d input.index) _ _ gm gn (λ z bt hm hn.
    closed_twice (both_joined (agreed_of g z) i c g j d z w) (Ok (agreed_of g z)) x y v u (e ∙ rw hm.0 refl) (rw hm.0 at hm.1) (f ∙ rw hn.0 refl) (rw hn.0 at hn.1))))))

pub drop_tunnel_twice : (w : World) (output input : PortId) (x y : Result (Unit {0}) OmxError) (v u : World) → DropTunnel w output input x v → DropTunnel w output input y u → IsSame x y v u
drop_tunnel_twice w output input x y v u a b =
    resolving_twice plain w output.handle x y v u _ _ (IsSame x y v u) a b (λ s. s) (λ i c p q.
    resolving_twice plain w input.handle x y v u _ _ (IsSame x y v u) p q (λ s. s) (λ j d r s.
    answers_twice (drop_refusal (look w).headers (port_of c output.index) (port_of d input.index)) w x y v u _ _ (IsSame x y v u) r s (λ z. z) (λ k l e f m n.
    both_there (port_of c output.index) _ _ m n (λ g at gm gn.
    both_there (port_of d input.index) _ _ gm gn (λ z bt hm hn.
    closed_twice (both_parted i c g j d z w) (Ok tt) x y v u e hm f hn)))))

pub send_command_twice : (w : World) (h : Handle) (command : Command) (x y : Result (Unit {0}) OmxError) (v u : World) → SendCommand w h command x v → SendCommand w h command y u → IsSame x y v u
send_command_twice w h command x y v u a b = resolving_twice plain w h x y v u _ _ (IsSame x y v u) a b (λ s. s) (λ i c p q.
    answers_twice (send_refusal (look w) c command) w x y v u _ _ (IsSame x y v u) p q (λ s. s) (λ s t e f C D. closed_twice (with_component i (sent command c) w) (Ok tt) x y v u e C f D))

pub run_command_twice : (w : World) (h : Handle) (x y : Result Acted OmxError) (v u : World) → RunCommand w h x v → RunCommand w h y u → IsSame x y v u
run_command_twice w h x y v u a b = resolving_twice plain w h x y v u _ _ (IsSame x y v u) a b (λ s. s) (λ i c p q.
    acts_twice (run_idle c c.commands) w (with_component i (run_front (look w) c.commands c) w) x y v u p q)

pub end_note_twice : (w : World) (h : Handle) (v u : World) → EndNote w h v → EndNote w h u → u ≡ v
end_note_twice w h v u a b =
    both_there (place_of h w.components) _ _ a b (λ i e p q.
    both_there (slice_get w.components i) _ _ p q (λ c f C D.
    closes_once (with_component i (back_in c) w) u v D C))

-- ---- headers of client ports

pub allocate_buffer_twice : (w : World) (h : Handle) (port : ℕ) (x y : Result Held CallError) (v u : World) → AllocateBuffer w h port x v → AllocateBuffer w h port y u → IsSame x y v u
allocate_buffer_twice w h port x y v u a b = resolving_twice Omx w h x y v u _ _ (IsSame x y v u) a b (λ s. s) (λ i c p q.
    answers_as_twice Omx (allocate_refusal (look w) c (port_of c port)) w x y v u _ _ (IsSame x y v u) p q (λ s. s) (λ k l e f m n.
    both_there (port_of c port) _ _ m n (λ g at hm hn.
    let s = client_header w.made g false in
    closed_twice (with_header s None w) (Ok (held_of s (empty_load None))) x y v u (e ∙ rw hm.0 refl) hm.1 (f ∙ rw hn.0 refl) hn.1)))

pub use_buffer_twice : (w : World) (h : Handle) (port : ℕ) (bytes : List ℕ) (x y : Result Held OmxError) (v u : World) → UseBuffer w h port bytes x v → UseBuffer w h port bytes y u → IsSame x y v u
use_buffer_twice w h port bytes x y v u a b = resolving_twice plain w h x y v u _ _ (IsSame x y v u) a b (λ s. s) (λ i c p q.
    answers_twice (use_refusal (look w) c (port_of c port) (length bytes)) w x y v u _ _ (IsSame x y v u) p q (λ s. s) (λ k l e f m n.
    both_there (port_of c port) _ _ m n (λ g at hm hn.
    let s = client_header w.made g true in
    closed_twice (with_header s (Some bytes) w) (Ok (held_of s (empty_load (Some bytes)))) x y v u (e ∙ rw hm.0 refl) hm.1 (f ∙ rw hn.0 refl) hn.1)))

pub free_buffer_twice : (w : World) (h : Handle) (port number : ℕ) (x y : Result Bool OmxError) (v u : World) → FreeBuffer w h port number x v → FreeBuffer w h port number y u → IsSame x y v u
free_buffer_twice w h port number x y v u a b = resolving_twice plain w h x y v u _ _ (IsSame x y v u) a b (λ s. s) (λ i c p q.
    both_there ((look w).headers.header number) _ _ p q (λ s at r t.
    answers_twice (free_buffer_refusal c (port_of c port) s) w x y v u _ _ (IsSame x y v u) r t (λ z. z) (λ k l e f m n.
    both_there (port_of c port) _ _ m n (λ g bt hm hn.
    closed_twice (without_header number (with_component i (unpopulated g c) w)) (Ok s.client_memory) x y v u (e ∙ rw hm.0 refl) hm.1 (f ∙ rw hn.0 refl) hn.1))))

pub empty_this_buffer_twice : (w : World) (h : Handle) (port : ℕ) (header : Held) (x y : Result (Unit {0}) OmxError) (v u : World) → EmptyThisBuffer w h port header x v → EmptyThisBuffer w h port header y u → IsSame x y v u
empty_this_buffer_twice w h port header x y v u a b = resolving_twice plain w h x y v u _ _ (IsSame x y v u) a b (λ s. s) (λ i c p q.
    both_there ((look w).headers.header header.number) _ _ p q (λ s at r t.
    answers_twice (empty_refusal c (port_of c port) s header.content) w x y v u _ _ (IsSame x y v u) r t (λ z. z) (λ k l e f m n.
    both_there (port_of c port) _ _ m n (λ g bt C D.
    closed_twice (with_todo g.key header.number (loaded (load_in header)) w) (Ok tt) x y v u e C f D))))

pub fill_this_buffer_twice : (w : World) (h : Handle) (port : ℕ) (header : Held) (x y : Result (Unit {0}) OmxError) (v u : World) → FillThisBuffer w h port header x v → FillThisBuffer w h port header y u → IsSame x y v u
fill_this_buffer_twice w h port header x y v u a b = resolving_twice plain w h x y v u _ _ (IsSame x y v u) a b (λ s. s) (λ i c p q.
    both_there ((look w).headers.header header.number) _ _ p q (λ s at r t.
    answers_twice (fill_refusal c (port_of c port) s) w x y v u _ _ (IsSame x y v u) r t (λ z. z) (λ k l e f m n.
    both_there (port_of c port) _ _ m n (λ g bt C D.
    closed_twice (with_todo g.key header.number (loaded (unloaded (load_in header))) w) (Ok tt) x y v u e C f D))))

take_from_twice : (w v u : World) (i : ℕ) (c : Component) (b : Bool) (o : Option Note) (x y : Result Took OmxError) → TakeFrom w i c b o x v → TakeFrom w i c b o y u → IsSame x y v u
take_from_twice w v u i c true o x y p q = nothing_twice w (Ok TookBusy) x y v u p.0 p.1 q.0 q.1
take_from_twice w v u i c false None x y p q = nothing_twice w (Ok TookNone) x y v u p.0 p.1 q.0 q.1
take_from_twice w v u i c false (Some (notes.Told event)) x y p q = closed_twice (with_given i c (notes.Told event) w) (Ok (TookNote (TakenEvent event))) x y v u p.0 p.1 q.0 q.1
take_from_twice w v u i c false (Some (notes.EmptyDone number)) x y p q = both_there (find_header number w.headers) _ _ p q (λ r e m n.
    closed_twice (with_client number (with_given i c (notes.EmptyDone number) w)) (Ok (TookNote (TakenEmpty (held r)))) x y v u m.0 m.1 n.0 n.1)
take_from_twice w v u i c false (Some (notes.FillDone number)) x y p q = both_there (find_header number w.headers) _ _ p q (λ r e m n.
    closed_twice (with_client number (with_given i c (notes.FillDone number) w)) (Ok (TookNote (TakenFilled (held r)))) x y v u m.0 m.1 n.0 n.1)

pub take_note_twice : (w : World) (h : Handle) (x y : Result Took OmxError) (v u : World) → TakeNote w h x v → TakeNote w h y u → IsSame x y v u
take_note_twice w h x y v u a b = resolving_twice plain w h x y v u _ _ (IsSame x y v u) a b (λ s. s) (λ i c p q. take_from_twice w v u i c c.client_out (slice_get c.notes 0) x y p q)

-- ---- acts on a port

pub supply_twice : (w : World) (h : Handle) (port : ℕ) (x y : Result Acted CallError) (v u : World) → Supply w h port x v → Supply w h port y u → IsSame x y v u
supply_twice w h port x y v u a b = on_port_twice Omx w h port x y v u _ _ (IsSame x y v u) a b (λ s. s) (λ i c p m n.
    acts_twice (supply_idle (look w) c p) w (with_supplied p w) x y v u m n)

pub release_twice : (w : World) (h : Handle) (port : ℕ) (x y : Result Acted OmxError) (v u : World) → Release w h port x v → Release w h port y u → IsSame x y v u
release_twice w h port x y v u a b = on_port_twice plain w h port x y v u _ _ (IsSame x y v u) a b (λ s. s) (λ i c p m n.
    acts_twice (release_idle (look w) c p) w (front_unmade (in_port (seen w.headers) p) w) x y v u m n)

pub hand_over_twice : (w : World) (h : Handle) (port : ℕ) (x y : Result Acted OmxError) (v u : World) → HandOver w h port x v → HandOver w h port y u → IsSame x y v u
hand_over_twice w h port x y v u a b = on_port_twice plain w h port x y v u _ _ (IsSame x y v u) a b (λ s. s) (λ i c p m n.
    acts_twice (over_idle (look w) c p) w (handed_over p w) x y v u m n)

pub hand_back_twice : (w : World) (h : Handle) (port : ℕ) (x y : Result Acted OmxError) (v u : World) → HandBack w h port x v → HandBack w h port y u → IsSame x y v u
hand_back_twice w h port x y v u a b = on_port_twice plain w h port x y v u _ _ (IsSame x y v u) a b (λ s. s) (λ i c p m n.
    acts_twice (back_idle (look w) c p) w (handed_back i c p p.state.link w) x y v u m n)

-- ---- works

claims_twice : (w : World) (i : ℕ) (c : Component) (idle : Option Claimed) (x y : Result Claimed OmxError) (v u : World) → Claims idle i c w x v → Claims idle i c w y u → IsSame x y v u
claims_twice w i c (Some idle) x y v u p q = nothing_twice w (Ok idle) x y v u p.0 p.1 q.0 q.1
claims_twice w i c None x y v u p q =
    let work : Work = work_of (seen w.headers) c in
    closed_twice (with_work i c work w) (Ok (ClaimedWork (seen_work c work w.headers))) x y v u p.0 p.1 q.0 q.1

pub claim_twice : (w : World) (h : Handle) (x y : Result Claimed OmxError) (v u : World) → Claim w h x v → Claim w h y u → IsSame x y v u
claim_twice w h x y v u a b = resolving_twice plain w h x y v u _ _ (IsSame x y v u) a b (λ s. s) (λ i c p q. claims_twice w i c (claim_idle (look w) c) x y v u p q)

pub finish_twice : (w : World) (done : WorkDone) (v u : World) → Finish w done v → Finish w done u → u ≡ v
finish_twice w done v u a b =
    both_there (place_numbered done.component w.components) _ _ a b (λ i e p q.
    both_there (slice_get w.components i) _ _ p q (λ c f C D. closes_once (finished i c done w) u v D C))
