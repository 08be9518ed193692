-- Which failed step of several is told.
use Rattle.std.specs.Prelude.{◌≡◌, ◌⊎◌, ℕ, nat_le, Bool, true, false, if◌then◌else◌, List, [], ◌∷◌, Option, Some, None}
use Rattle.omx_types.specs.declared.fault.PartFault.{PartFault}
use Rattle.omx_types.specs.declared.fault.PartFault.TheVariants as parts
use Rattle.omx_types.specs.declared.handle.Handle.{Handle}
use Rattle.turnstile.specs.declared.entry.Entry.{Entry}
use Rattle.graph_acts.specs.declared.act.Act.{Act}
use Rattle.graph_acts.specs.declared.act.Act.TheVariants as asks
use Rattle.graph_acts.specs.declared.act.Reply.{Reply}
use Rattle.play_worker.specs.declared.failure.Failure.{Failure}

-- ---- the order: a failed read, a failed write, then short sources by their numbers

abbrev pub is_fault_first : ℕ → ℕ → PartFault → PartFault → Bool
is_fault_first number other parts.Read why = true
is_fault_first number other parts.Write parts.Read = false
is_fault_first number other parts.Write why = true
is_fault_first number other (parts.Short at size) (parts.Short at' size') = nat_le number other
is_fault_first number other (parts.Short at size) why = false

abbrev pub is_first : Failure → Failure → Bool
is_first one other = is_fault_first (one.component).generation (other.component).generation one.fault other.fault

abbrev pub first_of : Failure → Failure → Failure
first_of one other = if is_first one other then one else other

abbrev pub worse : Option Failure → Option Failure → Option Failure
worse None next = next
worse (Some one) None = Some one
worse (Some one) (Some other) = Some (first_of one other)

-- ---- among calls

abbrev pub failed_by : Handle → Option PartFault → Option Failure
failed_by component None = None
failed_by component (Some fault) = Some (record { component = component; fault = fault })

module _ {S K C : Type 0} where
  -- the step whose work comes back, if it failed
  abbrev pub failure_in : Act S K C → Option Failure
  failure_in (asks.Finish done) = failed_by done.component done.fault
  failure_in _ = None

  abbrev pub HasFailed : List (Entry (Act S K C) (Reply S K C)) → Failure → Type 0
  HasFailed [] failure = ⊥
  HasFailed (e ∷ es) failure = (failure_in e.act ≡ Some failure) ⊎ HasFailed es failure

  -- no step failed; or this one did, and comes first of all that did
  abbrev pub TellsWorst : List (Entry (Act S K C) (Reply S K C)) → Option Failure → Type 0
  TellsWorst calls None = (other : Failure) → HasFailed calls other → ⊥
  TellsWorst calls (Some worst) = HasFailed calls worst × ((other : Failure) → HasFailed calls other → is_first worst other ≡ true)
