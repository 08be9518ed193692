-- Where no count rises, what making files comes to.
use Rattle.std.proofs.Common.{◌≡◌, inl, inr, ℕ, List, Option, Result, Ok, Err, ap, refl, ◌∙◌}
use Rattle.outside_io.specs.Files.{Outside}
use Rattle.omx_types.specs.declared.fault.Fault.{Fault}
use Rattle.omx_types.specs.declared.fault.Fault.TheVariants as Faults
use Rattle.omx_types.specs.declared.fault.Which.TheVariants as Files
use Rattle.omx_types.specs.declared.fault.Status.{Status}
use Rattle.omx_types.specs.declared.fault.Status.TheVariants as Statuses
use Rattle.load_gen.specs.Made.{MayRefuse, first, second, third, HasReason}
use Rattle.omxrun.specs.Asked.{CanMake, IsFaultless, IsOrMemory}
use Rattle.omxrun.specs.Making.{IsMakeOutcome}
use Rattle.omxrun.specs.Reports.{IsReported}
use Rattle.omxrun.specs.declared.done.Done.{Done}
use Rattle.omxrun.proofs.Complete.{told-status, true-false}

not-refused : (folder : List ℕ) (old : Outside) (number : ℕ) → CanMake folder old → MayRefuse folder old number → ⊥
not-refused folder old _ can (first may) = true-false _ may can.first_let_in
not-refused folder old _ can (second may) = true-false _ may can.second_let_in
not-refused folder old _ can (third may) = true-false _ may can.script_let_in

make-fault : (folder : List ℕ) (old new : Outside) (before now : ℕ) (fault : Fault) → IsFaultless old new before now → CanMake folder old → HasReason folder old new fault → fault ≡ Faults.OutOfMemory
make-fault folder old new before now Faults.WriteFault none can is = absurd (none.write is)
make-fault folder old new before now (Faults.Absent (Files.Made number)) none can is = absurd (not-refused folder old number can is.1)
make-fault folder old new before now (Faults.Absent Files.Input) none can is = absurd is
make-fault folder old new before now (Faults.Absent Files.Output) none can is = absurd is
make-fault folder old new before now (Faults.Absent Files.Script) none can is = absurd is
make-fault folder old new before now (Faults.Absent Files.Log) none can is = absurd is
make-fault folder old new before now (Faults.Absent (Files.Line line)) none can is = absurd is
make-fault folder old new before now Faults.OutOfMemory none can is = refl
make-fault folder old new before now (Faults.Script line why) none can is = absurd is
make-fault folder old new before now Faults.Usage none can is = absurd is
make-fault folder old new before now (Faults.BadMedia which fault) none can is = absurd is
make-fault folder old new before now Faults.ReadFault none can is = absurd is
make-fault folder old new before now (Faults.Short which at size) none can is = absurd is
make-fault folder old new before now (Faults.Units have need) none can is = absurd is
make-fault folder old new before now (Faults.Packets why) none can is = absurd is
make-fault folder old new before now (Faults.NotRun line why) none can is = absurd is

pub complete_make : (seed frames : ℕ) (folder : List ℕ) (old new : Outside) (before now : ℕ) (told told_new : Option (List ℕ)) (outcome : Result Done Fault) (status : Status) → IsMakeOutcome seed frames folder old new outcome → IsReported outcome told told_new before now status → IsFaultless old new before now → CanMake folder old → IsOrMemory status Statuses.Ok
complete_make seed frames folder old new before now told told_new (Ok done) status is printed none can = inl (told-status (Ok done) told told_new before now status none.print printed)
complete_make seed frames folder old new before now told told_new (Err fault) status is printed none can =
    inr (told-status (Err fault) told told_new before now status none.print printed ∙ ap Statuses.Fault (make-fault folder old new before now fault none can is.reason))
