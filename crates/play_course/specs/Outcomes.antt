-- What a play comes to.
use Rattle.std.specs.Prelude.{◌≡◌, ◌≢◌, ◌⊎◌, ℕ, ◌-◌, ◌^◌, ◌<◌, ◌≤◌, List, [], ◌∷◌, ◌++◌, slice_get, Some, IsTrue}
use Rattle.omx_types.specs.declared.fault.Fault.{Fault}
use Rattle.omx_types.specs.declared.fault.Fault.TheVariants as Faults
use Rattle.omx_types.specs.declared.fault.PartFault.{PartFault}
use Rattle.omx_types.specs.declared.fault.PartFault.TheVariants as parts
use Rattle.omx_types.specs.declared.fault.Which.TheVariants.{Line, Log}
use Rattle.outside_io.specs.Causes.{Rose}
use Rattle.outside_io.specs.Files.{AbsencesStand, CountsStand, GoesOn, IsFailedRead, IsFrontOf, Outside, SameBut, TellsAbsence, with_name}
use Rattle.outside_io.specs.Whole.{IsShort}
use Rattle.wav_form.specs.declared.heads.WavHead.{WavHead}
use Rattle.il_machine.specs.Acts.{Act, Reply}
use Rattle.il_machine.specs.World.{World}
use Rattle.script_lang.specs.declared.play_line.PartLine.{PartLine}
use Rattle.script_lang.specs.declared.script.Script.{Script}
use Rattle.play_forms.specs.Plain.{sink_text}
use Rattle.play_forms.specs.Plans.{IsFit, IsFitted, IsPlanOfScript, PlanValue}
use Rattle.play_plan_laws.specs.Assemblies.{IsReady, PlayFiles}
use Rattle.play_result_laws.specs.Files.{AreFiles, IsNoSink, IsWriter, read_by}
use Rattle.play_result_laws.specs.Results.{HoldSinks, IsLogOf, OthersAreKept}
use Rattle.play_result_laws.specs.Summaries.{SinkLine, summary_of}
use Rattle.play_result_laws.specs.Worlds.{HasWritten}
use Rattle.play_files.specs.Asked.{HasAskedFor, read_names, written_names}
use Rattle.play_files.specs.Left.{IsUnopened}
use Rattle.play_files.specs.Opening.{HasHead}
use Rattle.play_course.specs.Failing.{HasFailure, IsShortBehind, LeadsTo}
use Rattle.play_course.specs.Sums.{planned_summary}

-- the plan of the script, fitted to its files, which all were opened
pub record WasOpened (script : Script) (old : Outside) (plan : PlanValue) (files : PlayFiles) : Type 0 where
  pub planned : PlanValue
  pub is_plan : IsPlanOfScript script planned
  pub fitted : IsFitted planned files.heads plan
  pub fit : IsFit plan
  pub ready : IsReady plan files

-- ---- done whole

-- the sinks' names hold their texts, and the log's name its log; of each sink the summary tells the frames and how long its text is
pub record AreHeld (workers : ℕ) (log : List ℕ) (plan : PlanValue) (files : PlayFiles) (old new : Outside) (summary : List SinkLine) : Type 0 where
  pub samples : List (List ℕ)
  pub files_are : AreFiles old plan.parts files samples
  pub told : summary ≡ summary_of plan samples
  pub sinks : HoldSinks plan samples new
  pub text : List ℕ
  pub logged : new.file log ≡ Some text
  pub log_is : IsLogOf workers plan files new text
  pub others : OthersAreKept plan.parts log old new

-- the log's file is the last that was asked for
pub record IsDone (workers : ℕ) (script : Script) (log : List ℕ) (old new : Outside) (summary : List SinkLine) : Type 0 where
  pub plan : PlanValue
  pub files : PlayFiles
  pub opened : WasOpened script old plan files
  pub asked : HasAskedFor old new ((read_names plan.parts ++ written_names plan.parts) ++ log ∷ [])
  pub told : summary ≡ planned_summary plan
  pub held : IsTrue old.tells → AreHeld workers log plan files old new summary

-- the log's name holds a text, of which that is told
abbrev pub HoldsTold : (List ℕ → Type 0) → (log : List ℕ) → Outside → Type 0
HoldsTold Told log new = (text : List ℕ) × (new.file log ≡ Some text) × Told text

-- ---- a fault in the run

-- a failed read, which was one of the plan's sources, is told before a failed write or closing, and both before a short source, which
-- is short only behind its head
abbrev pub IsRunFault : List PartLine → Outside → Outside → Fault → Type 0
IsRunFault parts old new Faults.OutOfMemory = Unit {0}
IsRunFault parts old new Faults.ReadFault = IsFailedRead (read_names parts) old new
IsRunFault parts old new Faults.WriteFault = Rose old.write_faults new.write_faults × (new.read_faults ≡ old.read_faults)
IsRunFault parts old new (Faults.Short which at size) =
    CountsStand old new
    × ((place : ℕ) × (part : PartLine) × (name : List ℕ) × (slice_get parts place ≡ Some part) × (read_by part.form ≡ Some name) × (which ≡ Line part.line) × IsShort name old at size
    × ((head : WavHead) → HasHead old name head → head.start ≤ at))
IsRunFault parts old new other = ⊥

-- each sink's name holds a front of its text, and every other name is as before
pub record AreFronts (plan : PlanValue) (files : PlayFiles) (old new : Outside) : Type 0 where
  pub samples : List (List ℕ)
  pub files_are : AreFiles old plan.parts files samples
  pub sinks : (place : ℕ) (name : List ℕ) → IsWriter plan.parts place name → IsFrontOf (new.file name) (sink_text plan samples place)
  pub others : (name : List ℕ) → IsNoSink plan.parts name → new.file name ≡ old.file name

-- the source of the component at the place gave nothing there, behind its head
pub record IsShortAt (components : List PartLine) (old : Outside) (place at size : ℕ) : Type 0 where
  pub part : PartLine
  pub name : List ℕ
  pub there : slice_get components place ≡ Some part
  pub reads : read_by part.form ≡ Some name
  pub short : IsShort name old at size
  pub behind : (head : WavHead) → HasHead old name head → head.start ≤ at

-- a step that failed shows outside: a count rose, or a source gave nothing
abbrev pub ShowsOutside : List PartLine → Outside → Outside → ℕ → PartFault → Type 0
ShowsOutside components old new place parts.Read = Rose old.read_faults new.read_faults
ShowsOutside components old new place parts.Write = Rose old.write_faults new.write_faults
ShowsOutside components old new place (parts.Short at size) = IsShortAt components old place at size

-- a short source that is told is the first in the script of those that failed short, and no step failed otherwise
abbrev pub TellsLeast : List PartLine → List (Act × Reply) → Fault → Type 0
TellsLeast components steps (Faults.Short which at size) =
    (place : ℕ) × (part : PartLine) × (slice_get components place ≡ Some part) × (which ≡ Line part.line) × HasFailure steps place (parts.Short at size)
    × ((other : ℕ) (why : PartFault) → HasFailure steps other why → IsShortBehind place other why)
TellsLeast components steps other = Unit {0}

-- The world that the run left: from where the play begins its acts lead there, and each of their steps that failed shows. Each sink's name
-- holds a front of what was written into its file.
pub record HasLeft (plan : PlanValue) (files : PlayFiles) (old new : Outside) (fault : Fault) : Type 0 where
  pub steps : List (Act × Reply)
  pub left : World
  pub leads : LeadsTo plan files steps left
  pub least : TellsLeast plan.parts steps fault
  pub shows : (place : ℕ) (why : PartFault) → HasFailure steps place why → ShowsOutside plan.parts old new place why
  pub sinks : IsTrue old.tells → (place : ℕ) (name : List ℕ) → IsWriter plan.parts place name → (bytes : List ℕ) × HasWritten left place bytes × IsFrontOf (new.file name) bytes

-- want of memory is told, unless a closing failed; no read did
abbrev pub IsWantOfMemory : Outside → Outside → Fault → Type 0
IsWantOfMemory old new Faults.OutOfMemory = CountsStand old new
IsWantOfMemory old new Faults.WriteFault = Rose old.write_faults new.write_faults × (new.read_faults ≡ old.read_faults)
IsWantOfMemory old new other = ⊥

-- memory was wanted before the run began
pub record HasNotBegun (plan : PlanValue) (old new : Outside) (fault : Fault) : Type 0 where
  pub told : IsWantOfMemory old new fault
  pub sinks : IsTrue old.tells → (place : ℕ) (name : List ℕ) → IsWriter plan.parts place name → new.file name ≡ Some []

-- the run of a play broke off, and the log was not asked for
pub record IsBroken (script : Script) (old new : Outside) (fault : Fault) : Type 0 where
  pub plan : PlanValue
  pub files : PlayFiles
  pub absences : AbsencesStand old new
  pub opened : WasOpened script old plan files
  pub asked : HasAskedFor old new (read_names plan.parts ++ written_names plan.parts)
  pub why : IsRunFault plan.parts old new fault
  pub world : HasNotBegun plan old new fault ⊎ HasLeft plan files old new fault
  pub left : IsTrue old.tells → AreFronts plan files old new

-- ---- a log that wasn't written

abbrev pub IsLogFault : List ℕ → Outside → Outside → Fault → Type 0
IsLogFault log old new Faults.OutOfMemory = Unit {0}
IsLogFault log old new Faults.WriteFault = Rose old.write_faults new.write_faults × (new.read_faults ≡ old.read_faults)
IsLogFault log old new (Faults.Absent which) = (which ≡ Log) × Rose old.absences new.absences × IsTrue (old.may_refuse log) × CountsStand old new
IsLogFault log old new other = ⊥

-- the sinks' names hold their texts; the log's name is as before, or holds a front of the log
pub record IsLogLeft (workers : ℕ) (log : List ℕ) (plan : PlanValue) (files : PlayFiles) (old new : Outside) : Type 0 where
  pub samples : List (List ℕ)
  pub files_are : AreFiles old plan.parts files samples
  pub sinks : HoldSinks plan samples new
  pub text : List ℕ
  pub log_is : IsLogOf workers plan files new text
  pub front : (new.file log ≡ old.file log) ⊎ IsFrontOf (new.file log) text
  pub others : OthersAreKept plan.parts log old new

-- all files were closed, and none of the closings failed; only then was the log to be written, which changed no other name
pub record IsClosedWhole (log : List ℕ) (plan : PlanValue) (files : PlayFiles) (old closed : Outside) : Type 0 where
  pub goes_on : GoesOn old closed
  pub stand : CountsStand old closed
  pub absences : AbsencesStand old closed
  pub asked : HasAskedFor old closed (read_names plan.parts ++ written_names plan.parts)
  pub sinks : IsTrue old.tells → (samples : List (List ℕ)) → AreFiles old plan.parts files samples → HoldSinks plan samples closed
  pub kept : IsTrue old.tells → closed.file log ≡ old.file log

-- the log wasn't written, though each file was closed well: its file is the last that was asked for, and each call that failed on a sink
-- was one on it
pub record IsUnlogged (workers : ℕ) (script : Script) (log : List ℕ) (old new : Outside) (fault : Fault) : Type 0 where
  pub plan : PlanValue
  pub files : PlayFiles
  pub unabsent : TellsAbsence Faults.Absent old new fault
  pub opened : WasOpened script old plan files
  pub why : IsLogFault log old new fault
  -- once all files were closed
  pub closed : Outside
  pub whole : IsClosedWhole log plan files old closed
  pub goes_on : GoesOn closed new
  pub since : IsLogFault log closed new fault
  pub asked : fault ≢ Faults.OutOfMemory → HasAskedFor old new ((read_names plan.parts ++ written_names plan.parts) ++ log ∷ [])
  pub failed : IsTrue old.tells → old.write_faults < 2 ^ 64 - 1 → (times : ℕ) × (new.failed_writes ≡ with_name log times old.failed_writes)
  pub others : IsTrue old.tells → SameBut log closed new
  pub stand : fault ≢ Faults.WriteFault → CountsStand old new
  pub left : IsTrue old.tells → IsLogLeft workers log plan files old new
  pub unmade : IsTrue old.tells → fault ≢ Faults.WriteFault → new.file log ≡ old.file log

-- why a play wasn't done whole, and what it left: its files weren't opened, its run failed, or its log wasn't written
abbrev pub IsUndone : (workers : ℕ) → Script → List ℕ → Outside → Outside → Fault → Type 0
IsUndone workers script log old new fault = IsUnopened script old new fault ⊎ IsBroken script old new fault ⊎ IsUnlogged workers script log old new fault
