-- What the opening of a play's files leaves where it wasn't done whole.
use Rattle.std.specs.Prelude.{◌≡◌, ◌≢◌, ◌⊎◌, ℕ, ◌+◌, ◌<◌, List, [], ◌++◌, length, take, slice_get, Some, IsTrue}
use Rattle.omx_types.specs.declared.fault.Fault.{Fault}
use Rattle.omx_types.specs.declared.fault.Fault.TheVariants as Faults
use Rattle.outside_io.specs.Files.{GoesOn, Outside, TellsAbsence}
use Rattle.wav_form.specs.declared.heads.WavHead.{WavHead}
use Rattle.script_lang.specs.declared.play_line.PartLine.{PartLine}
use Rattle.script_lang.specs.declared.script.Script.{Script}
use Rattle.play_forms.specs.declared.plan_fault.PlanFault.{PlanFault}
use Rattle.play_forms.specs.Parts.{source_number}
use Rattle.play_forms.specs.Plans.{IsFaultOfScript, IsFit, IsFitFault, IsFitted, IsPlanOfScript, PlanValue}
use Rattle.play_plan_laws.specs.Assemblies.{PlayFiles}
use Rattle.play_result_laws.specs.Files.{AreFiles, IsReader, IsWriter, written_by}
use Rattle.play_files.specs.Asked.{HasAskedFor, read_names, written_names}
use Rattle.play_forms.specs.Faults.{fault_of_plan}
use Rattle.play_files.specs.Opening.{HasHead, IsSinkFault, IsSourceMet, IsStill}

-- the told file of each source of the first places has its head, which is the one of its number
abbrev pub HaveHeads : Outside → List PartLine → ℕ → List WavHead → Type 0
HaveHeads old parts count heads = IsTrue old.tells → (place : ℕ) (name : List ℕ) → place < count → IsReader parts place name
    → (head : WavHead) × (slice_get heads (source_number parts place) ≡ Some head) × HasHead old name head

-- the plan of the script, fitted to the heads that its told files have
pub record IsFittedTo (script : Script) (old : Outside) (fitted : PlanValue) : Type 0 where
  pub planned : PlanValue
  pub heads : List WavHead
  pub is_plan : IsPlanOfScript script planned
  pub have : HaveHeads old planned.parts (length planned.parts) heads
  pub is_fitted : IsFitted planned heads fitted

-- the script has no plan, or memory was wanted for it; no file was asked for
pub record IsUnplanned (script : Script) (old new : Outside) (fault : Fault) : Type 0 where
  pub why : PlanFault
  pub is : IsFaultOfScript script why
  pub told : fault ≡ fault_of_plan why
  pub still : IsStill old new
  pub unasked : new.openings ≡ old.openings

-- its file was the first of a source that wasn't opened
pub record IsUnread (planned : PlanValue) (old new : Outside) (fault : Fault) : Type 0 where
  pub place : ℕ
  pub heads : List WavHead
  pub before : HaveHeads old planned.parts place heads
  pub met : IsSourceMet old new planned.parts place fault

-- the plan doesn't fit its files, of which no sink's was asked for
pub record IsUnfit (planned : PlanValue) (old new : Outside) (fault : Fault) : Type 0 where
  pub heads : List WavHead
  pub have : HaveHeads old planned.parts (length planned.parts) heads
  pub plan : PlanValue
  pub fitted : IsFitted planned heads plan
  pub why : PlanFault
  pub is : IsFitFault plan why
  pub told : fault ≡ fault_of_plan why
  pub still : IsStill old new
  pub asked : HasAskedFor old new (read_names planned.parts)

-- the name of each sink before the place holds a new file, and each other name is as before
pub record AreEmptied (parts : List PartLine) (count : ℕ) (old new : Outside) : Type 0 where
  pub sinks : (place : ℕ) (name : List ℕ) → place < count → IsWriter parts place name → new.file name ≡ Some []
  pub others : (name : List ℕ) → ((place : ℕ) → place < count → IsWriter parts place name → ⊥) → new.file name ≡ old.file name

-- a sink wasn't opened, and those before it were
pub record IsUnwritten (planned : PlanValue) (old new : Outside) (fault : Fault) : Type 0 where
  pub plan : PlanValue
  pub files : PlayFiles
  pub fitted : IsFitted planned files.heads plan
  pub fit : IsFit plan
  pub files_are : IsTrue old.tells → (samples : List (List ℕ)) × AreFiles old plan.parts files samples
  pub goes_on : GoesOn old new
  pub reads : new.read_faults ≡ old.read_faults
  pub unread : new.failed_reads ≡ old.failed_reads
  pub unabsent : TellsAbsence Faults.Absent old new fault
  pub part : PartLine
  pub place : ℕ
  pub there : slice_get plan.parts place ≡ Some part
  pub name : List ℕ
  pub writes : written_by part.form ≡ Some name
  pub why : IsSinkFault part.line name old new fault
  -- its file was the last that was asked for, behind the sources and the sinks before it
  pub asked : fault ≢ Faults.OutOfMemory → HasAskedFor old new (read_names plan.parts ++ written_names (take (place + 1) plan.parts))
  pub left : IsTrue old.tells → AreEmptied plan.parts place old new

-- why the files of a play aren't open, and what is left
abbrev pub IsUnopened : Script → Outside → Outside → Fault → Type 0
IsUnopened script old new fault =
    IsUnplanned script old new fault
    ⊎ ((planned : PlanValue) × IsPlanOfScript script planned × (IsUnread planned old new fault ⊎ IsUnfit planned old new fault ⊎ IsUnwritten planned old new fault))
