-- What comes of the files where a command turns one into another. `Gives` says of each file's bytes what they come to: the
-- other file's bytes and what is told of them, or a fault of these bytes. `Stops` says where a source may give nothing.
use Rattle.std.specs.Prelude.{◌≡◌, ◌⊎◌, ◌≤◌, ℕ, List, [], ◌∷◌, length, Option, Some, None, Result, Ok, Err, IsTrue, IsFalse, IsSome, IfOk, IfErr, OnOk, OnErr}
use Rattle.outside_io.specs.Causes.{Rose}
use Rattle.outside_io.specs.Files.{CountsStand, IsFailedRead, IsFrontOf, Outside, SameBut}
use Rattle.omx_types.specs.declared.fault.Fault.{Fault}
use Rattle.omx_types.specs.declared.fault.Fault.TheVariants as Faults
use Rattle.omx_types.specs.declared.fault.Which.TheVariants as Files
use Rattle.wav_form.specs.Reading.{most_bytes}
use Rattle.omxrun.specs.Absences.{AreAbsencesTold}
use Rattle.omxrun.specs.Asked.{IsGiven}
use Rattle.omxrun.specs.declared.done.Done.{Done}

pub record Written : Type 0 where
  pub text : List ℕ
  pub done : Done

abbrev pub Giving : Type 1
Giving = List ℕ → Result Written Fault → Type 0

abbrev pub Stopping : Type 1
Stopping = (size : ℕ) (told : Option (List ℕ)) (ends : Option ℕ) (at told_size : ℕ) → Type 0

-- the text that is written of an answer; none where there is a fault
abbrev pub text_in : Result Written Fault → List ℕ
text_in (Ok written) = written.text
text_in (Err fault) = []

-- the told input has these bytes, and they come to this answer
pub record Comes (Gives : Giving) (input : List ℕ) (old : Outside) (answer : Result Written Fault) : Type 0 where
  pub bytes : List ℕ
  pub held : old.file input ≡ Some bytes
  pub gives : Gives bytes answer

-- the output's name holds the text of the input's bytes
abbrev pub IsTurned : Giving → List ℕ → List ℕ → Outside → Outside → Done → Type 0
IsTurned Gives input output old new done =
    (text : List ℕ) × Comes Gives input old (Ok (record { text = text; done = done })) × (new.file output ≡ Some text)

-- it holds what it held, or a front of that text
abbrev pub IsKeptOrBegun : Giving → List ℕ → List ℕ → Outside → Outside → Type 0
IsKeptOrBegun Gives input output old new =
    (new.file output ≡ old.file output) ⊎ ((answer : Result Written Fault) × Comes Gives input old answer × IsFrontOf (new.file output) (text_in answer))

-- why no output was written: the input is opened first, then the output, and then the bytes count. A short input isn't too large.
abbrev pub HasTurnReason : Giving → Stopping → List ℕ → List ℕ → Outside → Outside → Fault → Type 0
HasTurnReason Gives Stops input output old new Faults.ReadFault = IsFailedRead (input ∷ []) old new
HasTurnReason Gives Stops input output old new Faults.WriteFault = Rose old.write_faults new.write_faults
HasTurnReason Gives Stops input output old new (Faults.Absent Files.Input) = Rose old.absences new.absences × (old.file input ≡ None)
HasTurnReason Gives Stops input output old new (Faults.Absent Files.Output) =
    Rose old.absences new.absences × IsTrue (old.may_refuse output) × (IsTrue old.tells → IsSome (old.file input))
HasTurnReason Gives Stops input output old new Faults.OutOfMemory = Unit {0}
HasTurnReason Gives Stops input output old new (Faults.Short Files.Input at size) =
    (size ≤ most_bytes) × (IsTrue old.tells → (bytes : List ℕ) × (old.file input ≡ Some bytes) × Stops (length bytes) (old.file input) (old.ends input) at size)
HasTurnReason Gives Stops input output old new (Faults.BadMedia Files.Input fault) = IsTrue old.tells → Comes Gives input old (Err (Faults.BadMedia Files.Input fault))
HasTurnReason Gives Stops input output old new (Faults.Packets why) = IsTrue old.tells → Comes Gives input old (Err (Faults.Packets why))
HasTurnReason Gives Stops input output old new other = ⊥

-- a failed write and a fault of the bytes are told only where no read failed, and a short file only where neither did
abbrev pub IsAlone : Outside → Outside → Fault → Type 0
IsAlone old new Faults.WriteFault = new.read_faults ≡ old.read_faults
IsAlone old new (Faults.Short which at size) = CountsStand old new
IsAlone old new (Faults.BadMedia which fault) = new.read_faults ≡ old.read_faults
IsAlone old new (Faults.Packets why) = new.read_faults ≡ old.read_faults
IsAlone old new other = Unit {0}

-- faults that come before the output is opened, or with its name
abbrev pub IsUnopened : Fault → Type 0
IsUnopened (Faults.Absent which) = Unit {0}
IsUnopened other = ⊥

-- what turning a file comes to: done whole only where no read and no write failed
pub record IsTurnOutcome (Gives : Giving) (Stops : Stopping) (input output : List ℕ) (old new : Outside) (outcome : Result Done Fault) : Type 0 where
  pub others : IsTrue old.tells → SameBut output old new
  pub turned : IsTrue old.tells → IfOk outcome (IsTurned Gives input output old new)
  pub left : IsTrue old.tells → OnErr outcome (IsKeptOrBegun Gives input output old new)
  pub unabsent : AreAbsencesTold old new outcome
  pub unopened : IfErr outcome (λ fault. IsUnopened fault → new.file ≡ old.file)
  pub reason : IfErr outcome (HasTurnReason Gives Stops input output old new)
  pub alone : IfErr outcome (IsAlone old new)
  pub stand : OnOk outcome (CountsStand old new)

-- the input is told and given whole, its bytes come to this answer, and the output's name isn't refused
pub record CanTurn (Gives : Giving) (input output : List ℕ) (old : Outside) (answer : Result Written Fault) : Type 0 where
  pub tells : IsTrue old.tells
  pub bytes : List ℕ
  pub given : IsGiven old input bytes
  pub gives : Gives bytes answer
  pub let_in : IsFalse (old.may_refuse output)
