-- Where a component of a play stands: its state, what is pending and queued, and whether it holds its units, by how many
-- StateSets the conductor has begun and by the stage of the last of them at this component.
use Rattle.std.specs.Prelude.{ℕ, zero, suc, Bool, true, false, List, [], ◌∷◌, Option, Some, None}
use Rattle.omx_types.specs.declared.state.State.{State}
use Rattle.omx_types.specs.declared.state.State.TheVariants.{Loaded, Idle, Executing}
use Rattle.omx_types.specs.declared.command.Command.{Command}
use Rattle.omx_types.specs.declared.command.Command.TheVariants.{StateSet}
use Rattle.il_machine.specs.declared.answer.Cause.TheVariants as causes
use Rattle.il_machine.specs.declared.answer.Pending.{Pending}
use Rattle.il_machine.specs.World.{Component}

-- the state to which the StateSet of each phase leads; in phase 0 none was begun
abbrev pub target : ℕ → State
target zero = Loaded
target (suc zero) = Idle
target (suc (suc zero)) = Executing
target (suc (suc (suc zero))) = Idle
target _ = Loaded

abbrev pub before : ℕ → State
before zero = Loaded
before (suc phase) = target phase

-- of the StateSet at this component: 0 it isn't sent; 1 it is queued; 2 its transition is pending; 3 and 4 it is reached
abbrev pub state_at : ℕ → ℕ → State
state_at phase zero = before phase
state_at phase (suc zero) = before phase
state_at phase (suc (suc zero)) = before phase
state_at phase _ = target phase

abbrev pub commands_at : ℕ → ℕ → List Command
commands_at phase (suc zero) = StateSet (target phase) ∷ []
commands_at phase _ = []

abbrev pub pending_to : State → Pending
pending_to state = record { target = state; cause = causes.Client }

abbrev pub pending_at : ℕ → ℕ → Option Pending
pending_at phase (suc (suc zero)) = Some (pending_to (target phase))
pending_at phase _ = None

-- its units: from the first way to Idle until it is Loaded again
abbrev pub holds_on : ℕ → Bool → Bool → Bool
holds_on zero taken given_back = false
holds_on (suc zero) taken given_back = taken
holds_on (suc (suc zero)) taken given_back = true
holds_on (suc (suc (suc zero))) taken given_back = true
holds_on _ taken given_back = given_back

abbrev pub is_taken : ℕ → Bool
is_taken zero = false
is_taken (suc zero) = false
is_taken _ = true

abbrev pub is_kept : ℕ → Bool
is_kept zero = true
is_kept (suc zero) = true
is_kept (suc (suc zero)) = true
is_kept _ = false

abbrev pub holds_at : ℕ → ℕ → Bool
holds_at phase stage = holds_on phase (is_taken stage) (is_kept stage)

-- all else of the component stays what it is
abbrev pub standing : ℕ → ℕ → Component → Component
standing phase stage c = record c {
  state = state_at phase stage;
  pending = pending_at phase stage;
  loss_mark = false;
  commands = commands_at phase stage;
  holds = holds_at phase stage;
  waiting = None;
}
