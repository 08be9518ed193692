-- When a command comes to its end, and which fault it must tell.
use Rattle.std.specs.Prelude.{◌≡◌, ◌≢◌, ◌⊎◌, ℕ, ◌<◌, ◌≤◌, List, length, slice_get, Some, IsFalse, IsTrue, Ok, Err}
use Rattle.outside_io.specs.Causes.{Rose}
use Rattle.outside_io.specs.Files.{Outside}
use Rattle.omx_types.specs.declared.fault.Fault.TheVariants.{OutOfMemory}
use Rattle.omx_types.specs.declared.fault.WavFault.{WavFault}
use Rattle.omx_types.specs.declared.fault.Status.{Status}
use Rattle.omx_types.specs.declared.fault.Status.TheVariants.{Fault}
use Rattle.omx_types.specs.declared.fault.ScriptWhy.{ScriptWhy}
use Rattle.load_gen.specs.Script.{first_name, second_name, script_name}
use Rattle.script_lang.specs.LineByLine.{fault_at}
use Rattle.script_lang.specs.PlayScripts.{IsPlayScript, PlayReadsAs}
use Rattle.script_lang.specs.Scripts.{IsScript, ReadsAs}
use Rattle.script_lang.specs.declared.play_line.PartLine.{PartLine}
use Rattle.script_lang.specs.declared.script.Script.{Script}
use Rattle.wav_form.specs.declared.heads.WavHead.{WavHead}
use Rattle.wav_form.specs.Reading.{Reads}
use Rattle.play_forms.specs.declared.plan_fault.PlanFault.{PlanFault}
use Rattle.play_forms.specs.declared.plan_fault.PlanFault.TheVariants as Plans
use Rattle.play_forms.specs.Plans.{IsFaultOfScript, IsFit, IsFitFault, IsPlanOfScript, PlanValue}
use Rattle.play_result_laws.specs.Files.{IsReader, IsWriter, read_by}
use Rattle.play_files.specs.Left.{IsFittedTo}
use Rattle.play_course.specs.Settling.{parts_of}

-- the told file of that name, which is given to its end
pub record IsGiven (old : Outside) (name bytes : List ℕ) : Type 0 where
  pub held : old.file name ≡ Some bytes
  pub end : ℕ
  pub told_end : old.ends name ≡ Some end
  pub whole : length bytes ≤ end

-- the script is told and given whole, and is this one of a play
pub record IsAsked (name log : List ℕ) (old : Outside) (script : Script) : Type 0 where
  pub tells : IsTrue old.tells
  pub text : List ℕ
  pub given : IsGiven old name text
  pub is : IsPlayScript name log text script

-- it is told and given whole, and is none, by this fault
pub record IsUnread (name log : List ℕ) (old : Outside) (line : ℕ) (why : ScriptWhy) : Type 0 where
  pub tells : IsTrue old.tells
  pub bytes : List ℕ
  pub given : IsGiven old name bytes
  pub refused : PlayReadsAs name log bytes (Err (fault_at line why))

-- it has no plan, by this fault, which isn't want of memory
pub record HasNoPlan (name log : List ℕ) (old : Outside) (why : PlanFault) : Type 0 where
  pub script : Script
  pub asked : IsAsked name log old script
  pub is : IsFaultOfScript script why
  pub shape : why ≢ Plans.OutOfMemory

-- the file of that name is given to its end, and is valid
abbrev pub IsSound : Outside → List ℕ → Type 0
IsSound old name = (bytes : List ℕ) × (head : WavHead) × IsGiven old name bytes × Reads bytes (Ok head)

-- the script's plan is there, and the source in that line has this fault; those before it are sound
pub record IsFaulty (name log : List ℕ) (old : Outside) (line : ℕ) (fault : WavFault) : Type 0 where
  pub script : Script
  pub asked : IsAsked name log old script
  pub plan : PlanValue
  pub is_plan : IsPlanOfScript script plan
  pub place : ℕ
  pub part : PartLine
  pub there : slice_get (parts_of script) place ≡ Some part
  pub line_is : line ≡ part.line
  pub file : List ℕ
  pub reads_file : read_by part.form ≡ Some file
  pub bytes : List ℕ
  pub given : IsGiven old file bytes
  pub reads : Reads bytes (Err fault)
  pub before : (other : ℕ) (file : List ℕ) → other < place → IsReader (parts_of script) other file → IsSound old file

-- the script's plan is there and its sources are sound, and fitted to their heads it has this fault
pub record IsMisfitted (name log : List ℕ) (old : Outside) (why : PlanFault) : Type 0 where
  pub script : Script
  pub asked : IsAsked name log old script
  pub sources : (place : ℕ) (file : List ℕ) → IsReader (parts_of script) place file → IsSound old file
  pub fitted : PlanValue
  pub fits_to : IsFittedTo script old fitted
  pub misfits : IsFitFault fitted why

-- the script's plan is there and fits its sources, which are sound, and neither a sink nor the log is refused
pub record CanPlay (name log : List ℕ) (old : Outside) : Type 0 where
  pub script : Script
  pub asked : IsAsked name log old script
  pub sources : (place : ℕ) (file : List ℕ) → IsReader (parts_of script) place file → IsSound old file
  pub fitted : PlanValue
  pub fits_to : IsFittedTo script old fitted
  pub fits : IsFit fitted
  pub sinks_let_in : (place : ℕ) (file : List ℕ) → IsWriter (parts_of script) place file → IsFalse (old.may_refuse file)
  pub log_let_in : IsFalse (old.may_refuse log)

-- the script is told and given whole, and is one
pub record CanTrace (script : List ℕ) (old : Outside) : Type 0 where
  pub tells : IsTrue old.tells
  pub bytes : List ℕ
  pub given : IsGiven old script bytes
  pub read : Script
  pub is : IsScript bytes read

-- the script is told and given whole, and is none, by this fault
pub record IsUntraced (script : List ℕ) (old : Outside) (line : ℕ) (why : ScriptWhy) : Type 0 where
  pub tells : IsTrue old.tells
  pub bytes : List ℕ
  pub given : IsGiven old script bytes
  pub refused : ReadsAs bytes (Err (fault_at line why))

-- none of the three made names is refused
pub record CanMake (folder : List ℕ) (old : Outside) : Type 0 where
  pub first_let_in : IsFalse (old.may_refuse (first_name folder))
  pub second_let_in : IsFalse (old.may_refuse (second_name folder))
  pub script_let_in : IsFalse (old.may_refuse (script_name folder))

-- no count of failed reads and writes rose
pub record IsFaultless (old new : Outside) (before now : ℕ) : Type 0 where
  pub read : Rose old.read_faults new.read_faults → ⊥
  pub write : Rose old.write_faults new.write_faults → ⊥
  pub print : Rose before now → ⊥

-- the status is that one, or memory was wanting
abbrev pub IsOrMemory : Status → Status → Type 0
IsOrMemory status wanted = (status ≡ wanted) ⊎ (status ≡ Fault OutOfMemory)
