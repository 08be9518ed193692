-- What making an input does to the files of a media, and why it failed.
use Rattle.std.specs.Prelude.{◌≡◌, ◌≢◌, ℕ, List, Some, Result, Err, OnOk, OnErr, IfErr, IsTrue}
use Rattle.outside_io.specs.Causes.{Rose}
use Rattle.outside_io.specs.Files.{Outside, GoesOn, SameBut}
use Rattle.outside_io.specs.Whole.{IsKeptOrFrontOf, HasWriteReason}
use Rattle.outside_io.specs.declared.media.Refused.{Refused}
use Rattle.outside_io.specs.declared.media.Refused.TheVariants.{Absent as NotMade, Failed as NotWritten, OutOfMemory as NoRoom}
use Rattle.omx_types.specs.declared.fault.Fault.{Fault}
use Rattle.omx_types.specs.declared.fault.Fault.TheVariants.{WriteFault, Absent, OutOfMemory}
use Rattle.omx_types.specs.declared.fault.Which.TheVariants.{Made}
use Rattle.load_gen.specs.Samples.{wav}
use Rattle.load_gen.specs.Script.{first_name, second_name, script_name, script}

-- a call that writes this text under this name: what it does to the files, and why it refuses
pub record Makes (name text : List ℕ) (old new : Outside) (result : Result (Unit {0}) Refused) : Type 0 where
  pub goes_on : GoesOn old new
  pub others : IsTrue old.tells → SameBut name old new
  pub held : IsTrue old.tells → OnOk result (new.file name ≡ Some text)
  pub front : IsTrue old.tells → OnErr result (IsKeptOrFrontOf (old.file name) (new.file name) text)
  pub reason : IfErr result (HasWriteReason name old new)
  pub reads : new.read_faults ≡ old.read_faults
  pub writes : result ≢ Err NotWritten → new.write_faults ≡ old.write_faults
  pub unabsent : result ≢ Err NotMade → new.absences ≡ old.absences

-- the three names hold their texts
pub record AreMade (seed frames : ℕ) (folder : List ℕ) (new : Outside) : Type 0 where
  pub first : new.file (first_name folder) ≡ Some (wav seed 0 frames)
  pub second : new.file (second_name folder) ≡ Some (wav seed 1 frames)
  pub script_text : new.file (script_name folder) ≡ Some (script folder)

-- each of the three names is as before, or holds a front of its text
pub record ArePartlyMade (seed frames : ℕ) (folder : List ℕ) (old new : Outside) : Type 0 where
  pub first : IsKeptOrFrontOf (old.file (first_name folder)) (new.file (first_name folder)) (wav seed 0 frames)
  pub second : IsKeptOrFrontOf (old.file (second_name folder)) (new.file (second_name folder)) (wav seed 1 frames)
  pub script_text : IsKeptOrFrontOf (old.file (script_name folder)) (new.file (script_name folder)) (script folder)

-- every other name holds what it held
abbrev pub OthersAreKept : List ℕ → Outside → Outside → Type 0
OthersAreKept folder old new =
    (other : List ℕ) → other ≢ first_name folder → other ≢ second_name folder → other ≢ script_name folder → new.file other ≡ old.file other

-- the media may refuse the made file of that number: 1, 2 and 3 are the two WAV files and the script
pub data MayRefuse (folder : List ℕ) (old : Outside) : ℕ → Type 0 where
  first : IsTrue (old.may_refuse (first_name folder)) → MayRefuse folder old 1
  second : IsTrue (old.may_refuse (second_name folder)) → MayRefuse folder old 2
  third : IsTrue (old.may_refuse (script_name folder)) → MayRefuse folder old 3

-- why not all was made
abbrev pub HasReason : List ℕ → Outside → Outside → Fault → Type 0
HasReason folder old new WriteFault = Rose old.write_faults new.write_faults
HasReason folder old new (Absent (Made number)) = Rose old.absences new.absences × MayRefuse folder old number
HasReason folder old new OutOfMemory = Unit {0}
HasReason folder old new _ = ⊥

-- the fault of a made file that was refused
abbrev pub fault_at : ℕ → Refused → Fault
fault_at number NotMade = Absent (Made number)
fault_at number NotWritten = WriteFault
fault_at number NoRoom = OutOfMemory
