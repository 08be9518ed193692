-- What the trace of a script comes to, and the text that it asks for.
use Rattle.std.specs.Prelude.{◌≡◌, ◌⊎◌, ℕ, List, [], ◌∷◌, ◌++◌, Some, None, IsTrue, IsSome, Result, Ok, Err, OnOk}
use Rattle.outside_io.specs.Causes.{Rose}
use Rattle.outside_io.specs.Files.{CountsStand, IsFailedRead, Outside}
use Rattle.outside_io.specs.Whole.{IsShort}
use Rattle.omx_types.specs.declared.fault.Fault.{Fault}
use Rattle.omx_types.specs.declared.fault.Fault.TheVariants as Faults
use Rattle.omx_types.specs.declared.fault.Which.TheVariants as Files
use Rattle.omx_types.specs.declared.fault.ScriptWhy.{ScriptWhy}
use Rattle.script_lang.specs.LineByLine.{fault_at}
use Rattle.script_lang.specs.Scripts.{IsScript, ReadsAs}
use Rattle.script_lang.specs.declared.script.Script.{Script}
use Rattle.trace_run.specs.OneTrace.{HasOneText}
use Rattle.trace_run.specs.Traced.{IsTraced, IsTracedTo}
use Rattle.omxrun.specs.Absences.{AreAbsencesTold}
use Rattle.omxrun.specs.Texts.{fault_line}

-- the file of that name is this script
pub record IsScriptIn (name : List ℕ) (old : Outside) (script : Script) : Type 0 where
  pub bytes : List ℕ
  pub held : IsTrue old.tells → old.file name ≡ Some bytes
  pub is : IsScript bytes script

-- it is told and is none, by this first fault
pub record IsNoScriptIn (name : List ℕ) (old : Outside) (line : ℕ) (why : ScriptWhy) : Type 0 where
  pub bytes : List ℕ
  pub held : old.file name ≡ Some bytes
  pub refused : ReadsAs bytes (Err (fault_at line why))

-- why there is no script to trace; a fault of its bytes is told only where no read and no write failed
abbrev pub HasScriptReason : List ℕ → Outside → Outside → Fault → Type 0
HasScriptReason name old new (Faults.Script line why) = CountsStand old new × (IsTrue old.tells → IsNoScriptIn name old line why)
HasScriptReason name old new Faults.ReadFault = IsFailedRead (name ∷ []) old new
HasScriptReason name old new (Faults.Absent Files.Script) = Rose old.absences new.absences × (old.file name ≡ None)
HasScriptReason name old new Faults.OutOfMemory = Unit {0}
HasScriptReason name old new (Faults.Short Files.Script at size) =
    CountsStand old new × IsShort name old at size × (IsTrue old.tells → IsSome (old.file name))
HasScriptReason name old new other = ⊥

-- a script's trace, or its first lines and then want of memory
abbrev pub TracesTo : Script → Result (Unit {0}) Fault → List ℕ → Type 0
TracesTo script (Ok done) text = IsTraced script text
TracesTo script (Err Faults.OutOfMemory) text =
    (count : ℕ) × (lines : List ℕ) × IsTracedTo count script lines × (text ≡ lines ++ fault_line Faults.OutOfMemory)
TracesTo script (Err other) text = ⊥

-- the file is a script, which has one text and is traced; or the line of a fault is all the text
abbrev pub IsTraceOf : List ℕ → Outside → Outside → Result (Unit {0}) Fault → List ℕ → Type 0
IsTraceOf name old new outcome text =
    ((script : Script) × IsScriptIn name old script × TracesTo script outcome text × HasOneText script)
    ⊎ ((fault : Fault) × HasScriptReason name old new fault × (outcome ≡ Err fault) × (text ≡ fault_line fault))

-- what a trace comes to: no told file changes; done whole only where no read and no write failed
pub record IsTraceOutcome (name : List ℕ) (old new : Outside) (outcome : Result (Unit {0}) Fault) (text : List ℕ) : Type 0 where
  pub kept : new.file ≡ old.file
  pub unabsent : AreAbsencesTold old new outcome
  pub is : IsTraceOf name old new outcome text
  pub stand : OnOk outcome (CountsStand old new)
