-- The change that is due, or that none is.
use Rattle.std.specs.Prelude.{ℕ}
use Rattle.omx_types.specs.declared.state.State.{State}
use Rattle.conductor.specs.declared.changing.Due.{Due}
use Rattle.conductor.specs.declared.phase.ChangeStep.{ChangeStep}
use Rattle.conductor.specs.declared.phase.LateLink.{LateLink}
use Rattle.conductor.specs.Hearing.{ConductorValue}
use Rattle.conductor.specs.Phases.{IsChangeDue, IsSendDue}

abbrev pub IsDueChange : ConductorValue → Due → Type 0
IsDueChange value due = (late : LateLink) × IsChangeDue value due.number late due.step

abbrev pub NoChange : ConductorValue → Type 0
NoChange value = (number : ℕ) (late : LateLink) (step : ChangeStep) → IsChangeDue value number late step → ⊥

abbrev pub NoSend : ConductorValue → Type 0
NoSend value = (state : State) → IsSendDue value state → ⊥
