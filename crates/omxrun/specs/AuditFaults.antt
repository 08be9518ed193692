-- Which fault the check of a log must tell.
use Rattle.std.specs.Prelude.{◌≡◌, ◌⊎◌, ℕ, ◌<◌, List, length, Some, None, IsSome, IsTrue}
use Rattle.omx_types.specs.declared.fault.Fault.{Fault}
use Rattle.omx_types.specs.declared.fault.Fault.TheVariants as Faults
use Rattle.omx_types.specs.declared.fault.ScriptWhy.{ScriptWhy}
use Rattle.omx_types.specs.declared.fault.Status.{Status}
use Rattle.omx_types.specs.declared.fault.Status.TheVariants as Statuses
use Rattle.omx_types.specs.declared.fault.Which.{Which}
use Rattle.omx_types.specs.declared.fault.Which.TheVariants as Files
use Rattle.outside_io.specs.Files.{Outside}
use Rattle.script_lang.specs.declared.script.Script.{Script}
use Rattle.play_result_laws.specs.Files.{IsWriter}
use Rattle.play_course.specs.Settling.{parts_of}
use Rattle.run_audit.specs.Faults.{AreThere, Asks, GiveHeads, IsFitBy}
use Rattle.omxrun.specs.Asked.{IsAsked, IsUnread}

-- the told files ask for this fault: the script isn't there, or is none, or the files that it names and the log ask for it
abbrev pub AsksAudit : (name log : List ℕ) → Outside → Fault → Type 0
AsksAudit name log old fault =
    (IsTrue old.tells × (old.file name ≡ None) × (fault ≡ Faults.Absent Files.Script))
    ⊎ ((line : ℕ) × (why : ScriptWhy) × IsUnread name log old line why × (fault ≡ Faults.Script line why))
    ⊎ ((script : Script) × IsAsked name log old script × Asks script log old fault)

-- all that is asked for is there, its plan fits its sources, and the file of a sink ends early
pub record HasCutSink (name log : List ℕ) (old : Outside) : Type 0 where
  pub script : Script
  pub asked : IsAsked name log old script
  pub sources : GiveHeads old (parts_of script) (length (parts_of script))
  pub fits : IsFitBy script old
  pub sinks : AreThere old (parts_of script) (length (parts_of script))
  pub log_there : IsSome (old.file log)
  pub place : ℕ
  pub file : List ℕ
  pub writes_file : IsWriter (parts_of script) place file
  pub bytes : List ℕ
  pub held : old.file file ≡ Some bytes
  pub end : ℕ
  pub told_end : old.ends file ≡ Some end
  pub early : end < length bytes

-- a file is told to have ended early, or memory was wanting
abbrev pub IsShortOrMemory : Status → Type 0
IsShortOrMemory status =
    ((which : Which) × (at : ℕ) × (size : ℕ) × (status ≡ Statuses.Fault (Faults.Short which at size))) ⊎ (status ≡ Statuses.Fault Faults.OutOfMemory)
