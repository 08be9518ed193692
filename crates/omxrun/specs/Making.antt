-- What making files comes to.
use Rattle.std.specs.Prelude.{◌≡◌, ◌≢◌, ℕ, List, Result, Err, IsTrue, IfOk, IfErr, OnOk, OnErr}
use Rattle.outside_io.specs.Files.{CountsStand, Outside}
use Rattle.omx_types.specs.declared.fault.Fault.{Fault}
use Rattle.omx_types.specs.declared.fault.Fault.TheVariants.{WriteFault}
use Rattle.load_gen.specs.Made.{AreMade, ArePartlyMade, OthersAreKept, HasReason}
use Rattle.omxrun.specs.Absences.{AreAbsencesTold}
use Rattle.omxrun.specs.declared.done.Done.{Done}
use Rattle.omxrun.specs.declared.done.Done.TheVariants.{Made}

-- the three names hold their texts; or each of them is as before or holds a front of its text; every other name is as before; all is made only where no read and no write failed
pub record IsMakeOutcome (seed frames : ℕ) (folder : List ℕ) (old new : Outside) (outcome : Result Done Fault) : Type 0 where
  pub done : IfOk outcome (λ done. done ≡ Made frames)
  pub made : IsTrue old.tells → IfOk outcome (λ _. AreMade seed frames folder new)
  pub partly : IsTrue old.tells → OnErr outcome (ArePartlyMade seed frames folder old new)
  pub others : IsTrue old.tells → OthersAreKept folder old new
  pub unabsent : AreAbsencesTold old new outcome
  pub reason : IfErr outcome (HasReason folder old new)
  pub stand : OnOk outcome (CountsStand old new)
  -- nothing is read
  pub reads : new.read_faults ≡ old.read_faults
  -- a write that failed is told, and nothing in its place
  pub writes : outcome ≢ Err WriteFault → new.write_faults ≡ old.write_faults
