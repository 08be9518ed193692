-- Which fault the check of a log must tell: the first that the told files ask for, in the order in which the check comes to them.
use Rattle.std.specs.Prelude.{◌≡◌, ◌≢◌, ◌⊎◌, ℕ, ◌<◌, ◌≤◌, List, length, slice_get, Some, None, IsSome, Result, Err}
use Rattle.omx_types.specs.declared.fault.Fault.{Fault}
use Rattle.omx_types.specs.declared.fault.Fault.TheVariants as Faults
use Rattle.omx_types.specs.declared.fault.WavFault.{WavFault}
use Rattle.omx_types.specs.declared.fault.Which.TheVariants.{Line, Log}
use Rattle.outside_io.specs.Files.{Outside}
use Rattle.wav_form.specs.declared.heads.WavHead.{WavHead}
use Rattle.wav_form.specs.Reading.{Reads}
use Rattle.script_lang.specs.declared.play_line.PartLine.{PartLine}
use Rattle.script_lang.specs.declared.script.Script.{Script}
use Rattle.play_forms.specs.declared.plan_fault.PlanFault.{PlanFault}
use Rattle.play_forms.specs.declared.plan_fault.PlanFault.TheVariants as Plans
use Rattle.play_forms.specs.Plans.{IsFaultOfScript, IsFit, IsFitFault, IsPlanOfScript, PlanValue}
use Rattle.play_result_laws.specs.Files.{IsReader, IsWriter, read_by, written_by}
use Rattle.play_forms.specs.Faults.{fault_of_plan}
use Rattle.play_files.specs.Left.{IsFittedTo}
use Rattle.play_files.specs.Opening.{HasHead}
use Rattle.play_course.specs.Settling.{parts_of}
use Rattle.compared_files.specs.Comparing.{IsGivenToEnd}
use Rattle.run_audit.specs.declared.auditing.AuditFault.{AuditFault}
use Rattle.run_audit.specs.declared.auditing.AuditFault.TheVariants as audits

-- ---- the plan

-- the script has no plan, by this fault, which isn't want of memory
abbrev pub AsksByPlan : Script → Fault → Type 0
AsksByPlan script fault = (why : PlanFault) × IsFaultOfScript script why × (why ≢ Plans.OutOfMemory) × (fault ≡ fault_of_plan why)

-- ---- the sources, once there is a plan

-- the source of that name gives its bytes up to this offset
abbrev pub GivesUpTo : Outside → List ℕ → ℕ → Type 0
GivesUpTo old name count = (end : ℕ) × (old.ends name ≡ Some end) × (count ≤ end)

-- the told file of that name has a head, which it gives
pub record GivesHead (old : Outside) (name : List ℕ) : Type 0 where
  pub head : WavHead
  pub held : HasHead old name head
  pub given : GivesUpTo old name head.start

-- the sources of the first places do
abbrev pub GiveHeads : Outside → List PartLine → ℕ → Type 0
GiveHeads old parts count = (place : ℕ) (name : List ℕ) → place < count → IsReader parts place name → GivesHead old name

-- the told file of that name is given whole, and isn't valid
pub record IsBadMedia (old : Outside) (name : List ℕ) (fault : WavFault) : Type 0 where
  pub bytes : List ℕ
  pub held : old.file name ≡ Some bytes
  pub given : GivesUpTo old name (length bytes)
  pub reads : Reads bytes (Err fault)

-- the file of the source in that line isn't there, or isn't valid
abbrev pub IsBadSource : ℕ → List ℕ → Outside → Fault → Type 0
IsBadSource line name old (Faults.Absent which) = (which ≡ Line line) × (old.file name ≡ None)
IsBadSource line name old (Faults.BadMedia which fault) = (which ≡ Line line) × IsBadMedia old name fault
IsBadSource line name old other = ⊥

pub record AsksBySource (script : Script) (old : Outside) (fault : Fault) : Type 0 where
  pub plan : PlanValue
  pub is_plan : IsPlanOfScript script plan
  pub place : ℕ
  pub part : PartLine
  pub there : slice_get (parts_of script) place ≡ Some part
  pub name : List ℕ
  pub reads_file : read_by part.form ≡ Some name
  pub before : GiveHeads old (parts_of script) place
  pub bad : IsBadSource part.line name old fault

-- ---- the formats, once all sources have heads

-- fitted to the heads of its told sources, the plan has this fault
pub record AsksByFormats (script : Script) (old : Outside) (fault : Fault) : Type 0 where
  pub sources : GiveHeads old (parts_of script) (length (parts_of script))
  pub fitted : PlanValue
  pub fits_to : IsFittedTo script old fitted
  pub why : PlanFault
  pub misfits : IsFitFault fitted why
  pub told : fault ≡ fault_of_plan why

-- and so it has none
pub record IsFitBy (script : Script) (old : Outside) : Type 0 where
  pub fitted : PlanValue
  pub fits_to : IsFittedTo script old fitted
  pub fit : IsFit fitted

-- ---- the sinks, once the plan fits

abbrev pub AreThere : Outside → List PartLine → ℕ → Type 0
AreThere old parts count = (place : ℕ) (name : List ℕ) → place < count → IsWriter parts place name → IsSome (old.file name)

-- the file of a sink isn't there; those of the sinks before it are
pub record AsksBySink (script : Script) (old : Outside) (fault : Fault) : Type 0 where
  pub sources : GiveHeads old (parts_of script) (length (parts_of script))
  pub fits : IsFitBy script old
  pub place : ℕ
  pub part : PartLine
  pub there : slice_get (parts_of script) place ≡ Some part
  pub name : List ℕ
  pub writes_file : written_by part.form ≡ Some name
  pub before : AreThere old (parts_of script) place
  pub absent : old.file name ≡ None
  pub told : fault ≡ Faults.Absent (Line part.line)

-- ---- the log, once the sinks' files are there

-- the told file of that name gives nothing from this offset on, which is below its size
pub record IsCutAt (name : List ℕ) (old : Outside) (at size : ℕ) : Type 0 where
  pub bytes : List ℕ
  pub held : old.file name ≡ Some bytes
  pub whole : size ≡ length bytes
  pub told_end : old.ends name ≡ Some at
  pub early : at < size

-- it isn't there, or ends early
abbrev pub IsBadLog : List ℕ → Outside → Fault → Type 0
IsBadLog log old (Faults.Absent which) = (which ≡ Log) × (old.file log ≡ None)
IsBadLog log old (Faults.Short which at size) = (which ≡ Log) × IsCutAt log old at size
IsBadLog log old other = ⊥

pub record AsksByLog (script : Script) (log : List ℕ) (old : Outside) (fault : Fault) : Type 0 where
  pub sources : GiveHeads old (parts_of script) (length (parts_of script))
  pub fits : IsFitBy script old
  pub sinks : AreThere old (parts_of script) (length (parts_of script))
  pub bad : IsBadLog log old fault

-- ---- the whole

-- the told files ask for this fault
abbrev pub Asks : Script → List ℕ → Outside → Fault → Type 0
Asks script log old fault =
    AsksByPlan script fault ⊎ AsksBySource script old fault ⊎ AsksByFormats script old fault ⊎ AsksBySink script old fault ⊎ AsksByLog script log old fault

-- it is told, or want of memory
abbrev pub TellsOrMemory : Result ℕ AuditFault → Fault → Type 0
TellsOrMemory result fault = (result ≡ Err (audits.Fault fault)) ⊎ (result ≡ Err (audits.Fault Faults.OutOfMemory))

-- ---- files that end early

-- the told file of each sink gives all its bytes
abbrev pub AreGivenToEnd : Script → Outside → Type 0
AreGivenToEnd script old = (place : ℕ) (name : List ℕ) → IsWriter (parts_of script) place name → IsGivenToEnd (old.file name) (old.ends name)

-- so does the told log
abbrev pub IsLogGiven : List ℕ → Outside → Type 0
IsLogGiven log old = IsGivenToEnd (old.file log) (old.ends log)
