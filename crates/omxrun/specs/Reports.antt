-- What is printed of an outcome, and what the status says.
use Rattle.std.specs.Prelude.{◌≡◌, ◌⊎◌, ℕ, List, Option, Some, Result, Ok, Err}
use Rattle.std.specs.Io.KnownBytes.{append_known}
use Rattle.outside_io.specs.Causes.{Rose}
use Rattle.outside_io.specs.Moves.{AppendsFront}
use Rattle.outside_io.specs.declared.writing.Writing.{Writing}
use Rattle.outside_io.specs.declared.writing.Writing.TheVariants.{Going, Stopped}
use Rattle.omx_types.specs.declared.fault.Fault.{Fault}
use Rattle.omx_types.specs.declared.fault.Fault.TheVariants.{WriteFault}
use Rattle.omx_types.specs.declared.fault.Status.{Status}
use Rattle.omx_types.specs.declared.fault.Status.TheVariants as Statuses
use Rattle.omxrun.specs.Texts.{fault_line, made_text, packed_text, unpacked_text, yes_text}
use Rattle.omxrun.specs.declared.done.Done.{Done}
use Rattle.omxrun.specs.declared.done.Done.TheVariants.{Made, Packed, Unpacked, Audited}

abbrev pub status_of : {T : Type 0} → Result T Fault → Status
status_of (Ok done) = Statuses.Ok
status_of (Err fault) = Statuses.Fault fault

abbrev pub done_text : Done → List ℕ
done_text (Made frames) = made_text frames
done_text (Packed counts) = packed_text counts
done_text (Unpacked counts) = unpacked_text counts
done_text (Audited acts) = yes_text acts

-- what is printed of an outcome
abbrev pub outcome_text : Result Done Fault → List ℕ
outcome_text (Ok done) = done_text done
outcome_text (Err fault) = fault_line fault

-- the text was printed whole, and no count of the sink rose; or it rose, and a front was printed
abbrev pub IsPrinted : Status → List ℕ → Option (List ℕ) → Option (List ℕ) → ℕ → ℕ → Status → Type 0
IsPrinted wanted text old new before now status =
    ((status ≡ wanted) × (new ≡ append_known old text) × (now ≡ before))
    ⊎ ((status ≡ Statuses.Fault WriteFault) × Rose before now × AppendsFront old new text)

-- the outcome was printed
abbrev pub IsReported : Result Done Fault → Option (List ℕ) → Option (List ℕ) → ℕ → ℕ → Status → Type 0
IsReported outcome old new before now status = IsPrinted (status_of outcome) (outcome_text outcome) old new before now status

-- where no write to the sink had failed, none failed since, or the last one did that was tried, and the status says so
abbrev pub HasStopped : Option Writing → Option Writing → Status → Type 0
HasStopped old new status = old ≡ Some Going → (new ≡ Some Going) ⊎ ((new ≡ Some Stopped) × (status ≡ Statuses.Fault WriteFault))
