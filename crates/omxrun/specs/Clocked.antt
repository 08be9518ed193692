-- What the run of a clock's script comes to, and the text that this asks for.
use Rattle.std.specs.Prelude.{◌≡◌, ℕ, List, Some, IsTrue, Result, Ok, Err, OnOk}
use Rattle.outside_io.specs.Files.{CountsStand, Outside}
use Rattle.omx_types.specs.declared.fault.Fault.{Fault}
use Rattle.omx_types.specs.declared.fault.Fault.TheVariants as Faults
use Rattle.omx_types.specs.declared.fault.ScriptWhy.{ScriptWhy}
use Rattle.clock_core.specs.Printed.{clock_text}
use Rattle.clock_core.specs.Script.{IsFaulty, IsScript}
use Rattle.omxrun.specs.Absences.{AreAbsencesTold}
use Rattle.omxrun.specs.Asked.{IsGiven}
use Rattle.omxrun.specs.Texts.{fault_line}
use Rattle.omxrun.specs.Traced.{HasScriptReason}

-- a clock's script has its own text; one that is faulty has the line of its first fault, and no more
abbrev pub RunsTo : List ℕ → Result (Unit {0}) Fault → List ℕ → Type 0
RunsTo bytes (Ok done) text = IsScript bytes × (text ≡ clock_text bytes)
RunsTo bytes (Err (Faults.Script line why)) text = IsFaulty bytes line why × (text ≡ fault_line (Faults.Script line why))
RunsTo bytes (Err other) text = ⊥

-- the file of that name is a clock's script, and this is its text
pub record IsClockIn (name : List ℕ) (old : Outside) (text : List ℕ) : Type 0 where
  pub bytes : List ℕ
  pub held : IsTrue old.tells → old.file name ≡ Some bytes
  pub is : IsScript bytes
  pub spelled : text ≡ clock_text bytes

-- it is told and is none, by this first fault
pub record IsNoClockIn (name : List ℕ) (old : Outside) (line : ℕ) (why : ScriptWhy) : Type 0 where
  pub bytes : List ℕ
  pub held : old.file name ≡ Some bytes
  pub faulty : IsFaulty bytes line why

-- why there is no script for a clock: a fault of its bytes, only where no read and no write failed; a file that isn't read whole has the
-- faults that it has for a trace
abbrev pub HasClockReason : List ℕ → Outside → Outside → Fault → Type 0
HasClockReason name old new (Faults.Script line why) = CountsStand old new × (IsTrue old.tells → IsNoClockIn name old line why)
HasClockReason name old new other = HasScriptReason name old new other

-- the file is a clock's script, and its text is printed; or the line of a fault is all the text
abbrev pub IsClockOf : List ℕ → Outside → Outside → Result (Unit {0}) Fault → List ℕ → Type 0
IsClockOf name old new (Ok done) text = IsClockIn name old text
IsClockOf name old new (Err fault) text = HasClockReason name old new fault × (text ≡ fault_line fault)

-- what the run of a clock's script comes to: no told file changes; done whole only where no read and no write failed
pub record IsClockOutcome (name : List ℕ) (old new : Outside) (outcome : Result (Unit {0}) Fault) (text : List ℕ) : Type 0 where
  pub kept : new.file ≡ old.file
  pub unabsent : AreAbsencesTold old new outcome
  pub is : IsClockOf name old new outcome text
  pub stand : OnOk outcome (CountsStand old new)

-- the script is told and given whole, and is a clock's
pub record CanClock (script : List ℕ) (old : Outside) : Type 0 where
  pub tells : IsTrue old.tells
  pub bytes : List ℕ
  pub given : IsGiven old script bytes
  pub is : IsScript bytes

-- the script is told and given whole, and is none, by this fault
pub record IsUnclocked (script : List ℕ) (old : Outside) (line : ℕ) (why : ScriptWhy) : Type 0 where
  pub tells : IsTrue old.tells
  pub bytes : List ℕ
  pub given : IsGiven old script bytes
  pub faulty : IsFaulty bytes line why
