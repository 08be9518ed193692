-- What an audit comes to.
use Rattle.std.specs.Prelude.{◌≡◌, ◌≢◌, ◌⊎◌, ℕ, ◌<◌, ◌≤◌, ◌^◌, List, [], ◌∷◌, ◌++◌, length, slice_get, Option, Some, None, Result, Ok, Err, IsSome, IsTrue}
use Rattle.omx_types.specs.declared.fault.Fault.{Fault}
use Rattle.omx_types.specs.declared.fault.Fault.TheVariants as Faults
use Rattle.omx_types.specs.declared.fault.Which.{Which}
use Rattle.omx_types.specs.declared.fault.Which.TheVariants.{Line, Log}
use Rattle.omx_types.specs.declared.fault.PartFault.{PartFault}
use Rattle.omx_types.specs.declared.fault.PartFault.TheVariants as parts
use Rattle.outside_io.specs.declared.source.Source.{Ghosts as SourceGhosts}
use Rattle.outside_io.specs.declared.whole.Unread.{Unread}
use Rattle.outside_io.specs.declared.whole.Unread.TheVariants as reasons
use Rattle.outside_io.specs.Causes.{Rose}
use Rattle.outside_io.specs.Moves.{WhereTold}
use Rattle.outside_io.specs.Files.{AbsencesStand, IsFailedRead, Outside, TellsAbsence}
use Rattle.outside_io.specs.Whole.{IsShort}
use Rattle.audio_parts.specs.declared.part_file.PartFile.{PartFile}
use Rattle.audio_parts.specs.declared.part_file.PartFile.TheVariants as files
use Rattle.compared_files.specs.declared.comparing.Met.{Met}
use Rattle.compared_files.specs.declared.comparing.Met.TheVariants as mets
use Rattle.compared_files.specs.Comparing.{ComparingValue, HasMet}
use Rattle.play_course.specs.Settling.{line_in}
use Rattle.wav_form.specs.declared.heads.WavHead.{WavHead}
use Rattle.script_lang.specs.PlayScripts.{IsPlayScript}
use Rattle.script_lang.specs.declared.play_line.PartLine.{PartLine}
use Rattle.script_lang.specs.declared.script.Script.{Script}
use Rattle.play_forms.specs.Plans.{PlanValue}
use Rattle.play_plan_laws.specs.Assemblies.{IsReady, PlayFiles}
use Rattle.play_result_laws.specs.Files.{read_by, written_by}
use Rattle.play_result_laws.specs.Results.{HoldSinks, IsLogOf, IsPlanIn}
use Rattle.play_files.specs.Asked.{HasAskedFor, read_names, written_names}
use Rattle.play_files.specs.Left.{HaveHeads}
use Rattle.play_files.specs.Opening.{HasHead}
use Rattle.play_course.specs.Outcomes.{WasOpened}
use Rattle.audit_files.specs.Left.{AreSinksThere, IsUncompared}
use Rattle.audit_forms.specs.Audited.{No, Verdict, Yes}
use Rattle.audit_forms.specs.Whole.{IsAudited}
use Rattle.audit_laws.specs.Played.{IsPlayedBy}
use Rattle.run_audit.specs.declared.auditing.AuditFault.{AuditFault}
use Rattle.run_audit.specs.Faults.{IsLogGiven}
use Rattle.run_audit.specs.declared.auditing.AuditFault.TheVariants as audits
use Rattle.run_audit.specs.declared.replaying.Replayed.{Replayed}
use Rattle.run_audit.specs.declared.replaying.Replayed.TheVariants as comes

-- the told log has this verdict, by whichever name the script was read
abbrev pub HasVerdict : Script → List ℕ → Outside → Verdict → Type 0
HasVerdict script log old verdict = IsTrue old.tells → (name text : List ℕ) → old.file name ≡ Some text → IsPlayScript name log text script → IsAudited name log old verdict

-- where they are told, the plan's heads are those of the sources' files, and the file of each sink is there
pub record AreFound (old : Outside) (plan : PlanValue) (files : PlayFiles) : Type 0 where
  pub sources : HaveHeads old plan.parts (length plan.parts) files.heads
  pub sinks : AreSinksThere old plan.parts (length plan.parts)

-- so is the log
abbrev pub IsLogThere : List ℕ → Outside → Type 0
IsLogThere log old = IsTrue old.tells → IsSome (old.file log)

-- All files were opened, and the log was read, the last of all, which gave all its bytes; no absence was counted.
pub record IsJudged (script : Script) (log : List ℕ) (old new : Outside) (verdict : Verdict) : Type 0 where
  pub plan : PlanValue
  pub files : PlayFiles
  pub opened : WasOpened script old plan files
  pub found : AreFound old plan files
  pub log_there : IsLogThere log old
  pub log_given : IsTrue old.tells → IsLogGiven log old
  pub asked : HasAskedFor old new ((read_names plan.parts ++ written_names plan.parts) ++ log ∷ [])
  pub absences : AbsencesStand old new
  pub told : HasVerdict script log old verdict

-- ---- faults

-- why the log wasn't read
abbrev pub IsLogFault : List ℕ → Outside → Outside → Fault → Type 0
IsLogFault log old new Faults.OutOfMemory = Unit {0}
IsLogFault log old new Faults.ReadFault = IsFailedRead (log ∷ []) old new
IsLogFault log old new (Faults.Absent which) = (which ≡ Log) × Rose old.absences new.absences × (old.file log ≡ None)
IsLogFault log old new (Faults.Short which at size) = (which ≡ Log) × IsShort log old at size × IsLogThere log old
IsLogFault log old new other = ⊥

-- the file of the component in that line gave nothing below its size: a source's behind its head, or a sink's
pub record IsShortFile (parts : List PartLine) (old : Outside) (which : Which) (at size : ℕ) : Type 0 where
  pub place : ℕ
  pub part : PartLine
  pub there : slice_get parts place ≡ Some part
  pub name : List ℕ
  pub its : (read_by part.form ≡ Some name) ⊎ (written_by part.form ≡ Some name)
  pub line : which ≡ Line part.line
  pub short : IsShort name old at size
  pub behind : read_by part.form ≡ Some name → (head : WavHead) → HasHead old name head → head.start ≤ at

-- why the replay broke off
abbrev pub IsStepFault : List PartLine → Outside → Outside → Fault → Type 0
IsStepFault parts old new Faults.OutOfMemory = Unit {0}
IsStepFault parts old new Faults.ReadFault = IsFailedRead (read_names parts ++ written_names parts) old new
IsStepFault parts old new (Faults.Short which at size) = IsShortFile parts old which at size
IsStepFault parts old new other = ⊥

-- what a log that wasn't read is for the audit; none is too large
abbrev pub fault_of_unread : Unread → Fault
fault_of_unread reasons.Absent = Faults.Absent Log
fault_of_unread reasons.Failed = Faults.ReadFault
fault_of_unread (reasons.TooLong size) = Faults.OutOfMemory
fault_of_unread (reasons.Short at size) = Faults.Short Log at size
fault_of_unread reasons.OutOfMemory = Faults.OutOfMemory

-- what a comparison met, in that line
abbrev pub fault_of_met : ℕ → Option Met → Fault
fault_of_met line (Some mets.Failed) = Faults.ReadFault
fault_of_met line (Some (mets.Short at size)) = Faults.Short (Line line) at size
fault_of_met line (Some mets.OutOfMemory) = Faults.OutOfMemory
fault_of_met line None = Faults.OutOfMemory

module _ {S : Type 0} where
  abbrev pub fault_of_comparison : ℕ → Option (Option (PartFile S (ComparingValue S))) → Fault
  fault_of_comparison line (Some (Some (files.To snk frames))) = fault_of_met line snk.met
  fault_of_comparison line (Some (Some (files.From src format frames))) = Faults.OutOfMemory
  fault_of_comparison line (Some None) = Faults.OutOfMemory
  fault_of_comparison line None = Faults.OutOfMemory

  -- what a step that failed is, of that component with its file
  abbrev pub fault_of_step : Option PartLine → Option (Option (PartFile S (ComparingValue S))) → PartFault → Fault
  fault_of_step part file parts.Read = Faults.ReadFault
  fault_of_step part file parts.Write = fault_of_comparison (line_in part) file
  fault_of_step part file (parts.Short at size) = Faults.Short (Line (line_in part)) at size

  -- what is known of a comparison that came to its end
  abbrev pub HasMetAt : SourceGhosts S → Option (Option (PartFile S (ComparingValue S))) → Type 0
  HasMetAt g (Some (Some (files.To snk frames))) = HasMet (g.faults snk.src) (g.size snk.src) (g.ends snk.src) snk.met × WhereTold (g.told snk.src) (λ known. g.size snk.src ≡ length known)
  HasMetAt g (Some (Some (files.From src format frames))) = Unit {0}
  HasMetAt g (Some None) = Unit {0}
  HasMetAt g None = Unit {0}

  abbrev pub outcome_of : List PartLine → List (Option (PartFile S (ComparingValue S))) → Replayed → Result ℕ AuditFault
  outcome_of components entries (comes.Yes acts) = Ok acts
  outcome_of components entries (comes.No line why) = Err (audits.No line why)
  outcome_of components entries (comes.Failed component fault) = Err (audits.Fault (fault_of_step (slice_get components component) (slice_get entries component) fault))
  outcome_of components entries comes.OutOfMemory = Err (audits.Fault Faults.OutOfMemory)

  abbrev pub IsMetBy : SourceGhosts S → List (Option (PartFile S (ComparingValue S))) → Replayed → Type 0
  IsMetBy g entries (comes.Failed component fault) = fault ≡ parts.Write → HasMetAt g (slice_get entries component)
  IsMetBy g entries other = Unit {0}

-- all files were opened, but the log wasn't read
pub record IsLogUnread (script : Script) (log : List ℕ) (old new : Outside) (fault : Fault) : Type 0 where
  pub plan : PlanValue
  pub files : PlayFiles
  pub opened : WasOpened script old plan files
  pub found : AreFound old plan files
  pub asked : fault ≢ Faults.OutOfMemory → HasAskedFor old new ((read_names plan.parts ++ written_names plan.parts) ++ log ∷ [])
  pub unabsent : TellsAbsence Faults.Absent old new fault
  pub why : IsLogFault log old new fault

-- the log was read, and gave all its bytes, but the replay broke off: a step failed, or memory was wanted
pub record IsBrokenOff (script : Script) (log : List ℕ) (old new : Outside) (fault : Fault) : Type 0 where
  pub plan : PlanValue
  pub files : PlayFiles
  pub opened : WasOpened script old plan files
  pub found : AreFound old plan files
  pub log_there : IsLogThere log old
  pub log_given : IsTrue old.tells → IsLogGiven log old
  pub asked : HasAskedFor old new ((read_names plan.parts ++ written_names plan.parts) ++ log ∷ [])
  pub absences : AbsencesStand old new
  pub why : IsStepFault plan.parts old new fault

abbrev pub IsUnaudited : Script → List ℕ → Outside → Outside → Fault → Type 0
IsUnaudited script log old new fault = IsUncompared script old new fault ⊎ IsLogUnread script log old new fault ⊎ IsBrokenOff script log old new fault

abbrev pub IsNotRun : Script → List ℕ → Outside → Outside → AuditFault → Type 0
IsNotRun script log old new (audits.No line why) = IsJudged script log old new (No line why)
IsNotRun script log old new (audits.Fault fault) = IsUnaudited script log old new fault

-- ---- the theorem

-- a yes: the log names the run of a whole play
abbrev pub IsPlayRun : Script → List ℕ → Outside → ℕ → Type 0
IsPlayRun script log old acts = IsTrue old.tells → (name text : List ℕ) → old.file name ≡ Some text → IsPlayScript name log text script
    → (audited : IsAudited name log old (Yes acts)) × IsPlayedBy audited.plan audited.files audited.samples old audited.text acts

-- the told log is that of a play that was done whole, by at most 8 workers, and the told files are those that it left
pub record IsLogOfPlay (script : Script) (log : List ℕ) (old : Outside) : Type 0 where
  pub name : List ℕ
  pub plan : PlanValue
  pub files : PlayFiles
  pub samples : List (List ℕ)
  pub workers : ℕ
  pub text : List ℕ
  pub is : IsPlanIn name log old plan files samples
  pub read_so : is.read ≡ script
  pub ready : IsReady plan files
  pub few : workers ≤ 8
  pub held : old.file log ≡ Some text
  pub short : length text < 2 ^ 64
  pub sinks : HoldSinks plan samples old
  pub log_is : IsLogOf workers plan files old text

-- the log of such a play has no no
abbrev pub IsNoPlayLog : Script → List ℕ → Outside → AuditFault → Type 0
IsNoPlayLog script log old (audits.No line why) = IsTrue old.tells → IsLogOfPlay script log old → ⊥
IsNoPlayLog script log old (audits.Fault fault) = Unit {0}
