-- The ports that an answer names are those of components that have names.
use Rattle.std.proofs.Common.{◌≡◌, ℕ, Bool, List, [], ◌∷◌, Option, Some, None, MatchOption, slice_get, Ok, Err, refl}
use Rattle.std.specs.Prelude.{◌&&◌, IsSome}
use Rattle.omx_types.specs.declared.command.Command.{Command}
use Rattle.omx_types.specs.declared.command.Command.TheVariants as commands
use Rattle.omx_types.specs.declared.command.PortSel.{PortSel}
use Rattle.omx_types.specs.declared.command.PortSel.TheVariants as sels
use Rattle.omx_types.specs.declared.error.OmxError.{OmxError}
use Rattle.omx_types.specs.declared.error.OmxError.TheVariants as errors
use Rattle.omx_types.specs.declared.handle.Handle.{Handle}
use Rattle.il_machine.specs.declared.answer.Acted.{Acted}
use Rattle.il_machine.specs.declared.answer.Acted.TheVariants as acted
use Rattle.il_machine.specs.declared.answer.Pending.{Pending}
use Rattle.il_machine.specs.declared.answer.Why.{Why}
use Rattle.il_machine.specs.declared.port.Port.{Port}
use Rattle.il_machine.specs.declared.port.PortState.{PortState}
use Rattle.il_machine.specs.World.{Component, World, place_of, ports_of, with_component}
use Rattle.il_machine.specs.Look.{look}
use Rattle.il_machine.specs.Answers.{Acts}
use Rattle.il_machine.specs.Commands.{RunCommand, run_idle, run_reason, pending_reason, busy_port, is_selected, is_flushing, is_changing, is_waiting, run_front}
use Rattle.machine_laws.proofs.Finding.{either}
use Rattle.machine_laws.proofs.Keys.{there_is}
use Rattle.trace_run.specs.declared.names.NamedComponent.{NamedComponent}
use Rattle.trace_run.specs.Replying.{named_why}
use Rattle.trace_run.specs.Standing.{IsNamedAnswer}

module _ (components : List NamedComponent) where
  abbrev pub IsNamedWhy : Option Why → Type 0
  IsNamedWhy None = Unit {0}
  IsNamedWhy (Some reason) = IsSome (named_why components reason)

  pending_named : (p : Option Pending) → IsNamedWhy (pending_reason p)
  pending_named None = tt
  pending_named (Some p) = refl

  busy_named : (sel : PortSel) (test : PortState → Bool) (ports : List Port) → IsNamedWhy (busy_port sel test ports)
  busy_named sel test [] = tt
  busy_named sel test (p ∷ ports) = either (is_selected sel p.key.port && test p.state)
      (λ t. rw t refl)
      (λ f. rw f (busy_named sel test ports))

  reason_named : (c : Component) (command : Command) → IsNamedWhy (run_reason c command)
  reason_named c (commands.StateSet target) = pending_named c.pending
  reason_named c (commands.Flush sel) = busy_named sel is_flushing (ports_of c)
  reason_named c (commands.PortDisable sel) = busy_named sel is_changing (ports_of c)
  reason_named c (commands.PortEnable sel) = busy_named sel is_changing (ports_of c)
  reason_named c (commands.MarkBuffer port target value) = busy_named (sels.One port) is_waiting (ports_of c)

  idle_named : (c : Component) (queued : List Command) → IsNamedWhy (run_idle c queued)
  idle_named c [] = refl
  idle_named c (command ∷ rest) = reason_named c command

  pub acts_named : (E : Type 0) (o : Option Why) (x : Acted) (w after v : World) → IsNamedWhy o → Acts {E = E} o (Ok x) w after v → IsNamedAnswer components x
  acts_named E (Some reason) x w after v N a =
      let e = a.0 in
      let is : x ≡ acted.Idle reason = cc in
      rw is N
  acts_named E None x w after v N a =
      let e = a.0 in
      let is : x ≡ acted.Did = cc in
      rw is tt

  run_at : (w : World) (h : Handle) (x : Acted) (v : World) (o : Option ℕ) → MatchOption o ((Ok x ≡ Err errors.InvalidComponent) × (v ≡ w)) (λ i. MatchOption (slice_get w.components i) ⊥ (λ c.
      Acts {E = OmxError} (run_idle c c.commands) (Ok x) w (with_component i (run_front (look w) c.commands c) w) v)) → IsNamedAnswer components x
  run_at w h x v None a = let e = a.0 in absurd cc
  run_at w h x v (Some i) a =
      let k = there_is (slice_get w.components i) _ a in
      let c = k.0 in
      acts_named OmxError (run_idle c c.commands) x w (with_component i (run_front (look w) c.commands c) w) v (idle_named c c.commands) k.2

  -- a command that isn't run names no port of another component
  pub run_named : (w : World) (h : Handle) (x : Acted) (v : World) → RunCommand w h (Ok x) v → IsNamedAnswer components x
  run_named w h x v a = run_at w h x v (place_of h w.components) a
