-- What the check of a log comes to.
use Rattle.std.specs.Prelude.{◌≡◌, ◌⊎◌, ◌<◌, ◌^◌, ℕ, List, length, Some, IsTrue, Result, Ok, Err, OnOk}
use Rattle.outside_io.specs.Files.{CountsStand, Outside}
use Rattle.omx_types.specs.declared.fault.Fault.{Fault}
use Rattle.omx_types.specs.declared.fault.Fault.TheVariants as Faults
use Rattle.omx_types.specs.declared.fault.Status.{Status}
use Rattle.omx_types.specs.declared.fault.Status.TheVariants as Statuses
use Rattle.script_lang.specs.declared.script.Script.{Script}
use Rattle.play_forms.specs.Plans.{IsFit, PlanValue}
use Rattle.play_result_laws.specs.Files.{IsReader, IsWriter}
use Rattle.play_files.specs.Left.{IsFittedTo}
use Rattle.play_course.specs.Settling.{parts_of}
use Rattle.audit_forms.specs.Audited.{Verdict, Yes, No}
use Rattle.audit_forms.specs.Whole.{IsAudited}
use Rattle.audit_laws.specs.Played.{IsPlayedBy}
use Rattle.run_audit.specs.Auditing.{IsJudged, IsUnaudited}
use Rattle.run_audit.specs.Faults.{AreGivenToEnd, IsLogGiven}
use Rattle.run_audit.specs.declared.auditing.AuditFault.{AuditFault}
use Rattle.run_audit.specs.declared.auditing.AuditFault.TheVariants as Answers
use Rattle.omxrun.specs.Absences.{AreAbsencesTold}
use Rattle.omxrun.specs.Asked.{IsAsked, IsGiven, IsSound}
use Rattle.omxrun.specs.Plays.{HasPlayReason, IsPlayIn, IsPlayOutcome, WasRead}
use Rattle.omxrun.specs.Words.{IsPlay}
use Rattle.omxrun.specs.declared.done.Done.{Done}
use Rattle.omxrun.specs.declared.done.Done.TheVariants.{Audited}

-- ---- a verdict

-- the file is a script, which was read, and then the files that it names and the log, which gave all its bytes: told, the log has this
-- verdict
pub record IsDecided (name log : List ℕ) (old new : Outside) (verdict : Verdict) : Type 0 where
  pub script : Script
  pub mid : Outside
  pub read : WasRead name log old mid script
  pub judged : IsJudged script log mid new verdict
  pub log_given : IsTrue old.tells → IsLogGiven log old
  pub told : IsTrue old.tells → IsAudited name log old verdict

-- the told log names so many acts, from the opening of the script's play to the end of one that was done whole, and the told files of the
-- sinks are those of the plain function
abbrev pub NamesPlay : (name log : List ℕ) → Outside → ℕ → Type 0
NamesPlay name log old acts = (audited : IsAudited name log old (Yes acts)) × IsPlayedBy audited.plan audited.files audited.samples old audited.text acts

-- The files are told as a play left them that was done whole: none was changed since. The log's length fits in 64 bits.
pub record IsLeftByPlay (name log : List ℕ) (old : Outside) : Type 0 where
  pub workers : ℕ
  pub allowed : IsPlay name workers log
  pub before : Outside
  pub after : Outside
  pub tells : IsTrue before.tells
  pub printed : List ℕ
  pub played : IsPlayOutcome workers name log before after (Ok printed)
  pub unchanged : old.file ≡ after.file
  pub short : (text : List ℕ) → old.file log ≡ Some text → length text < 2 ^ 64

-- ---- none

-- the file is no script of a play, or was read as one, and then this kept the log from being checked
abbrev pub IsUndecided : (name log : List ℕ) → Outside → Outside → Fault → Type 0
IsUndecided name log old new fault =
    HasPlayReason name log old new fault ⊎ ((script : Script) × (mid : Outside) × WasRead name log old mid script × IsUnaudited script log mid new fault)

-- ---- the whole

-- what the command comes to by what the check answered
abbrev pub outcome_of_audit : Result ℕ AuditFault → Result Done Fault
outcome_of_audit (Ok acts) = Ok (Audited acts)
outcome_of_audit (Err (Answers.No line why)) = Err (Faults.NotRun line why)
outcome_of_audit (Err (Answers.Fault fault)) = Err fault

-- a yes, or a no, which no log of a play that was done whole has; or there is no verdict, by this fault
abbrev pub IsAuditOf : (name log : List ℕ) → Outside → Outside → Result Done Fault → Type 0
IsAuditOf name log old new (Ok (Audited acts)) = IsDecided name log old new (Yes acts) × (IsTrue old.tells → NamesPlay name log old acts)
IsAuditOf name log old new (Ok other) = ⊥
IsAuditOf name log old new (Err (Faults.NotRun line why)) = IsDecided name log old new (No line why) × (IsTrue old.tells → IsLeftByPlay name log old → ⊥)
IsAuditOf name log old new (Err other) = IsUndecided name log old new other

-- what the check of a log comes to: no told file changes, and nothing is written; a yes only where no read failed and each sink's file was
-- given to its end
pub record IsAuditOutcome (name log : List ℕ) (old new : Outside) (outcome : Result Done Fault) : Type 0 where
  pub kept : new.file ≡ old.file
  pub unwritten : new.write_faults ≡ old.write_faults
  pub unabsent : AreAbsencesTold old new outcome
  pub stand : OnOk outcome (CountsStand old new)
  pub given : IsTrue old.tells → OnOk outcome ((script : Script) → IsPlayIn name log old script → AreGivenToEnd script old)
  pub is : IsAuditOf name log old new outcome

-- ---- when there is one

-- The script is told and given whole, its plan fits its sources, which are sound, and the files of its sinks and the log are told and given
-- whole.
pub record CanAudit (name log : List ℕ) (old : Outside) : Type 0 where
  pub script : Script
  pub asked : IsAsked name log old script
  pub sources : (place : ℕ) (file : List ℕ) → IsReader (parts_of script) place file → IsSound old file
  pub fitted : PlanValue
  pub fits_to : IsFittedTo script old fitted
  pub fits : IsFit fitted
  pub sinks : (place : ℕ) (file : List ℕ) → IsWriter (parts_of script) place file → (bytes : List ℕ) × IsGiven old file bytes
  pub written_log : List ℕ
  pub log_given : IsGiven old log written_log

-- the status of a verdict
abbrev pub status_by : Verdict → Status
status_by (Yes acts) = Statuses.Ok
status_by (No line why) = Statuses.Fault (Faults.NotRun line why)

-- it is that of the verdict that the told log has, or memory was wanting
abbrev pub IsOfVerdict : (name log : List ℕ) → Outside → Status → Type 0
IsOfVerdict name log old status =
    ((verdict : Verdict) × IsAudited name log old verdict × (status ≡ status_by verdict)) ⊎ (status ≡ Statuses.Fault Faults.OutOfMemory)
