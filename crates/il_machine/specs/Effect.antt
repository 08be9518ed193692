-- The world that an act's answer leaves before the close-out. A refused act, one that answers Idle, and one that looks leave the world as it is.
use Rattle.std.specs.Prelude.{ℕ, true, false, Option, Some, None, slice_get, Ok}
use Rattle.omx_types.specs.declared.handle.Handle.{Handle}
use Rattle.omx_types.specs.declared.command.Note.TheVariants.{Told, EmptyDone, FillDone}
use Rattle.il_machine.specs.declared.answer.Acted.TheVariants.{Did}
use Rattle.il_machine.specs.declared.port.Port.{Port}
use Rattle.il_machine.specs.World.{Component, World, changed_at, place_numbered, place_of, with_component, port_of}
use Rattle.il_machine.specs.Headers.{seen, loaded, unloaded}
use Rattle.il_machine.specs.Look.{look}
use Rattle.il_machine.specs.Kinds.{kind_of}
use Rattle.il_machine.specs.Components.{with_new_component, without_component}
use Rattle.il_machine.specs.Parameters.{with_value}
use Rattle.il_machine.specs.Tunnels.{both_joined, both_parted}
use Rattle.il_machine.specs.Commands.{sent, run_front}
use Rattle.il_machine.specs.Buffers.{client_header, with_header, unpopulated, without_header, with_todo, load_in}
use Rattle.il_machine.specs.Notes.{TakenEvent, TakenEmpty, TakenFilled, TookNote, with_given, with_client, back_in}
use Rattle.il_machine.specs.Flow.{with_supplied, in_port, front_unmade, handed_over, handed_back}
use Rattle.il_machine.specs.declared.answer.Granted.TheVariants as granted
use Rattle.il_machine.specs.declared.answer.Preempted.TheVariants as preempted
use Rattle.il_machine.specs.Units.{first_waiter, victim, with_changed, granted_units, preempted_units}
use Rattle.il_machine.specs.Files.{with_file}
use Rattle.il_machine.specs.Claims.{ClaimedWork, work_of, with_work}
use Rattle.il_machine.specs.Finishing.{finished}
use Rattle.il_machine.specs.Acts.{Act, Reply}
use Rattle.il_machine.specs.Acts as acts

-- by the place that the handle names, and the component there
abbrev pub at_named : Handle → World → (ℕ → Component → World) → World
at_named h w change = changed_at (place_of h w.components) w (λ i. changed_at (slice_get w.components i) w (λ c. change i c))

-- by the component's number
abbrev pub at_numbered : ℕ → World → (ℕ → Component → World) → World
at_numbered number w change = changed_at (place_numbered number w.components) w (λ i. changed_at (slice_get w.components i) w (λ c. change i c))

-- by its port too
abbrev pub at_named_port : Handle → ℕ → World → (ℕ → Component → Port → World) → World
at_named_port h port w change = at_named h w (λ i c. changed_at (port_of c port) w (λ p. change i c p))

abbrev pub at_both : Option Port → Option Port → World → (Port → Port → World) → World
at_both p q w change = changed_at p w (λ a. changed_at q w (λ b. change a b))

abbrev pub effect : World → Act → Reply → World
effect w (acts.GetHandle name) (acts.Got (Ok h)) = changed_at (kind_of name) w (λ kind. with_new_component h kind w)
effect w (acts.FreeHandle h) (acts.Removed (Ok file)) = at_named h w (λ i c. without_component i c w)
effect w (acts.Attach h file) (acts.Plain (Ok done)) = at_named h w (λ i c. with_file i c file w)
effect w (acts.SetParameter h key value) (acts.Plain (Ok done)) = at_named h w (λ i c. with_component i (with_value key value c) w)
effect w (acts.SetConfig h key value) (acts.Plain (Ok done)) = at_named h w (λ i c. with_component i (with_value key value c) w)
effect w (acts.SetupTunnel output input) (acts.Joined (Ok supplier)) =
    at_named output.handle w (λ i c. at_named input.handle w (λ j d.
    at_both (port_of c output.index) (port_of d input.index) w (λ p q. both_joined supplier i c p j d q w)))
effect w (acts.DropTunnel output input) (acts.Plain (Ok done)) =
    at_named output.handle w (λ i c. at_named input.handle w (λ j d.
    at_both (port_of c output.index) (port_of d input.index) w (λ p q. both_parted i c p j d q w)))
effect w (acts.SendCommand h command) (acts.Plain (Ok done)) = at_named h w (λ i c. with_component i (sent command c) w)
effect w (acts.RunCommand h) (acts.Acted (Ok Did)) = at_named h w (λ i c. with_component i (run_front (look w) c.commands c) w)
effect w (acts.AllocateBuffer h port) (acts.Allocated (Ok header)) = at_named_port h port w (λ i c p. with_header (client_header w.made p false) None w)
effect w (acts.UseBuffer h port bytes) (acts.Used (Ok header)) = at_named_port h port w (λ i c p. with_header (client_header w.made p true) (Some bytes) w)
effect w (acts.FreeBuffer h port header) (acts.Freed (Ok is_clients)) =
    at_named_port h port w (λ i c p. without_header header (with_component i (unpopulated p c) w))
effect w (acts.EmptyThisBuffer h port header) (acts.Plain (Ok done)) =
    at_named_port h port w (λ i c p. with_todo p.key header.number (loaded (load_in header)) w)
effect w (acts.FillThisBuffer h port header) (acts.Plain (Ok done)) =
    at_named_port h port w (λ i c p. with_todo p.key header.number (loaded (unloaded (load_in header))) w)
effect w (acts.TakeNote h) (acts.Took (Ok (TookNote (TakenEvent event)))) = at_named h w (λ i c. with_given i c (Told event) w)
effect w (acts.TakeNote h) (acts.Took (Ok (TookNote (TakenEmpty header)))) =
    at_named h w (λ i c. with_client header.number (with_given i c (EmptyDone header.number) w))
effect w (acts.TakeNote h) (acts.Took (Ok (TookNote (TakenFilled header)))) =
    at_named h w (λ i c. with_client header.number (with_given i c (FillDone header.number) w))
effect w (acts.EndNote h progress) acts.Ended = at_named h w (λ i c. with_component i (back_in c) w)
effect w (acts.Supply h port) (acts.Supplied (Ok Did)) = at_named_port h port w (λ i c p. with_supplied p w)
effect w (acts.Release h port) (acts.Acted (Ok Did)) = at_named_port h port w (λ i c p. front_unmade (in_port (seen w.headers) p) w)
effect w (acts.HandOver h port) (acts.Acted (Ok Did)) = at_named_port h port w (λ i c p. handed_over p w)
effect w (acts.HandBack h port) (acts.Acted (Ok Did)) = at_named_port h port w (λ i c p. handed_back i c p p.state.link w)
effect w acts.Grant (acts.Granted (granted.Granted h)) = changed_at (first_waiter w.components) w (λ c. with_changed granted_units c w)
effect w acts.Preempt (acts.Preempted (preempted.Victim h)) = changed_at (victim w.components) w (λ c. with_changed preempted_units c w)
effect w (acts.Claim h) (acts.Claimed (Ok (ClaimedWork work))) = at_named h w (λ i c. with_work i c (work_of (seen w.headers) c) w)
effect w (acts.Finish done) acts.Finished = at_numbered done.component w (λ i c. finished i c done w)
effect w _ _ = w
