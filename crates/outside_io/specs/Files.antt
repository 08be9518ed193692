-- What a media tells, and what its calls do to it.
use Rattle.std.specs.Prelude.{◌≡◌, ◌≢◌, ℕ, ◌≤◌, Bool, List, ◌++◌, length, replicate, slice_get, take, Option, Some, option_map, Result, Ok, Err, IsTrue}
use Rattle.outside_io.specs.Causes.{Rose, sum_of_counts}

pub record Outside : Type 0 where
  -- whether it tells its files
  pub tells : Bool
  -- the told content of the file of that name; None where there is no file of that name, or none is told
  pub file : List ℕ → Option (List ℕ)
  -- the told offset from which on the sources of that name give nothing
  pub ends : List ℕ → Option ℕ
  -- whether a sink of that name may be refused
  pub may_refuse : List ℕ → Bool
  pub read_faults : ℕ
  pub write_faults : ℕ
  pub absences : ℕ
  -- the names that it was asked to open, the oldest first; None where it doesn't tell them
  pub openings : Option (List (List ℕ))
  -- the names of the openings, reads and seeks of sources that failed, the oldest first; None where it doesn't tell them. The
  -- calls on a source are told when it is closed.
  pub failed_reads : Option (List (List ℕ))
  -- the names of the openings, writes and closings of sinks that failed, the oldest first; None where it doesn't tell them
  pub failed_writes : Option (List (List ℕ))

-- these names, and then others, where they are told
abbrev pub with_names : List (List ℕ) → Option (List (List ℕ)) → Option (List (List ℕ))
with_names more = option_map (λ names. names ++ more)

-- the same name so many times more
abbrev pub with_name : List ℕ → ℕ → Option (List (List ℕ)) → Option (List (List ℕ))
with_name name times = with_names (replicate times name)

-- each of them is one of these
abbrev pub AreAmong : List (List ℕ) → List (List ℕ) → Type 0
AreAmong more names = (k : ℕ) (name : List ℕ) → slice_get more k ≡ Some name → (place : ℕ) × (slice_get names place ≡ Some name)

-- some of these names more, and no other
abbrev pub NamesMore : List (List ℕ) → Option (List (List ℕ)) → Option (List (List ℕ)) → Type 0
NamesMore names old new = (more : List (List ℕ)) × (1 ≤ length more) × AreAmong more names × (new ≡ with_names more old)

-- how many calls on a sink failed, once it is closed
abbrev pub failed_with : {E : Type 0} → ℕ → Result (Unit {0}) E → ℕ
failed_with faults (Ok done) = faults
failed_with faults (Err failed) = sum_of_counts faults 1

-- what stays the same over each call, and the counts, which never fall
pub record GoesOn (old new : Outside) : Type 0 where
  pub tells : new.tells ≡ old.tells
  pub ends : new.ends ≡ old.ends
  pub may_refuse : new.may_refuse ≡ old.may_refuse
  pub read_faults : old.read_faults ≤ new.read_faults
  pub write_faults : old.write_faults ≤ new.write_faults
  pub absences : old.absences ≤ new.absences

-- A call on a source failed, which had one of these names: the count of failed reads rose, and none but these names were added to those
-- of failed reads.
pub record IsFailedRead (names : List (List ℕ)) (old new : Outside) : Type 0 where
  pub rose : Rose old.read_faults new.read_faults
  pub named : IsTrue old.tells → NamesMore names old.failed_reads new.failed_reads

-- no count of failed reads or writes rose
pub record CountsStand (old new : Outside) : Type 0 where
  pub reads : new.read_faults ≡ old.read_faults
  pub writes : new.write_faults ≡ old.write_faults

-- no absence was counted
abbrev pub AbsencesStand : Outside → Outside → Type 0
AbsencesStand old new = new.absences ≡ old.absences

-- an absence that was counted is told by the error, as `absent` makes it
abbrev pub TellsAbsence : {W E : Type 0} → (W → E) → Outside → Outside → E → Type 0
TellsAbsence {W} absent old new error = ((which : W) → error ≢ absent which) → AbsencesStand old new

-- the outcome tells it so, or none was counted
abbrev pub TellsAbsences : {W E T : Type 0} → (W → E) → Outside → Outside → Result T E → Type 0
TellsAbsences absent old new (Ok done) = AbsencesStand old new
TellsAbsences absent old new (Err error) = TellsAbsence absent old new error

-- each other name holds what it held
abbrev pub SameBut : List ℕ → Outside → Outside → Type 0
SameBut name old new = (other : List ℕ) → other ≢ name → new.file other ≡ old.file other

-- a front of what is told
abbrev pub IsFrontOf : Option (List ℕ) → List ℕ → Type 0
IsFrontOf held bytes = (k : ℕ) × (held ≡ Some (take k bytes))
