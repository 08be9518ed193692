-- What a play comes to.
use Rattle.std.specs.Prelude.{◌≡◌, ◌≢◌, ◌⊎◌, ℕ, List, Option, Some, Result, Ok, Err, IsTrue, IfOk, IfErr, OnOk, OnErr}
use Rattle.outside_io.specs.Files.{AbsencesStand, CountsStand, GoesOn, Outside, with_name}
use Rattle.omx_types.specs.declared.fault.Fault.{Fault}
use Rattle.omx_types.specs.declared.fault.Fault.TheVariants as Faults
use Rattle.omx_types.specs.declared.fault.Which.TheVariants as Files
use Rattle.omx_types.specs.declared.fault.ScriptWhy.{ScriptWhy}
use Rattle.omx_types.specs.declared.fault.Status.{Status}
use Rattle.script_lang.specs.LineByLine.{fault_at}
use Rattle.script_lang.specs.PlayScripts.{IsPlayScript, PlayReadsAs}
use Rattle.script_lang.specs.declared.script.Script.{Script}
use Rattle.play_result_laws.specs.Leaving.{IsLeft}
use Rattle.play_result_laws.specs.Summaries.{SinkLine, summary_text}
use Rattle.play_course.specs.Outcomes.{IsDone, IsUndone}
use Rattle.play_course.specs.Settling.{parts_of}
use Rattle.omxrun.specs.Absences.{AreAbsencesTold}
use Rattle.omxrun.specs.Texts.{fault_line}
use Rattle.omxrun.specs.Reports.{IsPrinted, status_of}
use Rattle.omxrun.specs.Traced.{HasScriptReason}

-- ---- the script

-- the file of that name is this script of a play, nothing that is told changed while it was read, and no other was asked for
pub record WasRead (name log : List ℕ) (old mid : Outside) (script : Script) : Type 0 where
  pub goes_on : GoesOn old mid
  pub files : mid.file ≡ old.file
  pub absences : AbsencesStand old mid
  pub stand : CountsStand old mid
  pub unread : mid.failed_reads ≡ old.failed_reads
  pub asked : mid.openings ≡ with_name name 1 old.openings
  pub text : List ℕ
  pub held : IsTrue old.tells → old.file name ≡ Some text
  pub is : IsPlayScript name log text script

-- it is told and is none for this log, by this first fault
pub record IsNoPlayIn (name log : List ℕ) (old : Outside) (line : ℕ) (why : ScriptWhy) : Type 0 where
  pub bytes : List ℕ
  pub held : old.file name ≡ Some bytes
  pub refused : PlayReadsAs name log bytes (Err (fault_at line why))

-- it is told and is this script
pub record IsPlayIn (name log : List ℕ) (old : Outside) (script : Script) : Type 0 where
  pub bytes : List ℕ
  pub held : old.file name ≡ Some bytes
  pub is : IsPlayScript name log bytes script

-- why there is no script to play: a fault of its bytes, only where no read and no write failed; a file that isn't read whole has the
-- faults that it has for a trace
abbrev pub HasPlayReason : (name log : List ℕ) → Outside → Outside → Fault → Type 0
HasPlayReason name log old new (Faults.Script line why) = CountsStand old new × (IsTrue old.tells → IsNoPlayIn name log old line why)
HasPlayReason name log old new other = HasScriptReason name old new other

-- ---- its play

-- it was played whole, and this is to be printed
abbrev pub IsDoneWith : (workers : ℕ) → Script → List ℕ → Outside → Outside → List ℕ → Type 0
IsDoneWith workers script log old new printed = (summary : List SinkLine) × IsDone workers script log old new summary × (printed ≡ summary_text (parts_of script) summary)

-- what came of a script that was read, with so many workers; the outcome is what is to be printed, or a fault
pub record IsPlayCourse (workers : ℕ) (script : Script) (log : List ℕ) (old new : Outside) (outcome : Result (List ℕ) Fault) : Type 0 where
  pub done : IfOk outcome (IsDoneWith workers script log old new)
  pub unabsent : AreAbsencesTold old new outcome
  pub stand : OnOk outcome (CountsStand old new)
  pub undone : IfErr outcome (IsUndone workers script log old new)

-- ---- the whole

-- the file is a script, which was read, and then played whole
pub record IsPlayed (workers : ℕ) (name log : List ℕ) (old new : Outside) (printed : List ℕ) : Type 0 where
  pub script : Script
  pub mid : Outside
  pub read : WasRead name log old mid script
  pub done : IsDoneWith workers script log mid new printed

-- the file is no script, and no told file changes; or it was read, and this came of it
abbrev pub IsUnplayed : (workers : ℕ) (name log : List ℕ) → Outside → Outside → Fault → Type 0
IsUnplayed workers name log old new fault =
    ((new.file ≡ old.file) × HasPlayReason name log old new fault)
    ⊎ ((script : Script) × (mid : Outside) × WasRead name log old mid script × IsUndone workers script log mid new fault)

-- faults that come before a sink is opened; that a plan doesn't fit its files is a fault of the script
abbrev pub IsEarly : Fault → Type 0
IsEarly (Faults.Script line why) = Unit {0}
IsEarly (Faults.BadMedia which fault) = Unit {0}
IsEarly (Faults.Absent Files.Script) = Unit {0}
IsEarly (Faults.Short Files.Script at size) = Unit {0}
IsEarly (Faults.Units have need) = Unit {0}
IsEarly other = ⊥

-- what a play with so many workers comes to: done whole only where no read and no write failed; the log is begun only where all sinks hold their texts, and a
-- write failed
pub record IsPlayOutcome (workers : ℕ) (name log : List ℕ) (old new : Outside) (outcome : Result (List ℕ) Fault) : Type 0 where
  pub played : IfOk outcome (IsPlayed workers name log old new)
  pub unabsent : AreAbsencesTold old new outcome
  pub stand : OnOk outcome (CountsStand old new)
  pub unplayed : IfErr outcome (IsUnplayed workers name log old new)
  pub left : IsTrue old.tells → OnErr outcome (IsLeft workers name log old new)
  pub early : IfErr outcome (λ fault. IsEarly fault → new.file ≡ old.file)
  pub unlogged : IsTrue old.tells → IfErr outcome (λ fault. fault ≢ Faults.WriteFault → new.file log ≡ old.file log)

-- ---- what is printed

-- what is told of the sinks, or the line of the fault
abbrev pub play_text : Result (List ℕ) Fault → List ℕ
play_text (Ok printed) = printed
play_text (Err fault) = fault_line fault

abbrev pub IsPlayReported : Result (List ℕ) Fault → Option (List ℕ) → Option (List ℕ) → ℕ → ℕ → Status → Type 0
IsPlayReported outcome old new before now status = IsPrinted (status_of outcome) (play_text outcome) old new before now status
