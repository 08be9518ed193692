-- How a play whose files are open came to its end.
use Rattle.std.specs.Prelude.{◌≡◌, ℕ, ◌<◌, ◌^◌, Bool, List, Option, Result, IfErr, IfOk, OnErr, IsTrue, IsFalse}
use Rattle.omx_types.specs.declared.fault.Fault.{Fault}
use Rattle.outside_io.specs.Files.{Outside}
use Rattle.outside_io.specs.declared.source.Failed.{Failed}
use Rattle.script_lang.specs.declared.play_line.PartLine.{PartLine}
use Rattle.play_forms.specs.Plans.{PlanValue}
use Rattle.play_plan_laws.specs.Assemblies.{IsReady, PlayFiles}
use Rattle.play_files.specs.Closing.{AreClosed}
use Rattle.play_files.specs.Seen.{FileSeen}
use Rattle.play_course.specs.declared.player.RunFault.{RunFault}
use Rattle.play_course.specs.declared.settling.Ran.{Ran}
use Rattle.play_course.specs.Failing.{LeavesBehind}
use Rattle.play_course.specs.Players.{AreFilesOf, IsFailed, IsPlayedWhole}
use Rattle.play_course.specs.Running.{AreSameFiles, IsRunCause}
use Rattle.play_course.specs.Settling.{settled}
use Rattle.play_course.specs.Sums.{planned_summary}

-- what a player without gates tells of a log
abbrev pub TellsNothing : List PartLine → List ℕ → Type 0
TellsNothing parts text = Unit {0}

-- A run of the plan with these files by so many workers came to that. `Tells` is what the player tells of a log, by its components.
pub record HasRun (workers : ℕ) (Tells : List PartLine → List ℕ → Type 0) (plan : PlanValue) (before after : List (Option FileSeen)) (ran : Result Ran RunFault) : Type 0 where
  pub same : AreSameFiles before after
  pub told : IfOk ran (λ it. it.summary ≡ planned_summary plan)
  pub whole : IfOk ran (λ it. (given : PlayFiles) → IsReady plan given → AreFilesOf plan given before → IsPlayedWhole workers plan given before after it.text)
  pub gates : IfOk ran (λ it. Tells plan.parts it.text)
  pub failed : OnErr ran ((given : PlayFiles) → IsReady plan given → AreFilesOf plan given before → IsFailed plan given before after)
  pub cause : IfErr ran (IsRunCause before after)
  pub left : IfErr ran (λ fault. (given : PlayFiles) → IsReady plan given → AreFilesOf plan given before → LeavesBehind plan given before after fault)

-- Then its files were closed, and the counts were looked at.
pub record HasClosed (parts : List PartLine) (after : List (Option FileSeen)) (old new : Outside) (ran : Result Ran RunFault) (result : Result Ran Fault) : Type 0 where
  pub closed : Result (Unit {0}) Failed
  pub reads : Bool
  pub writes : Bool
  pub closes : AreClosed after old new closed
  pub few : old.read_faults < 2 ^ 64
  pub read : IsTrue reads → old.read_faults < new.read_faults
  pub unread : IsFalse reads → new.read_faults ≡ old.read_faults
  pub wrote : IsTrue writes → old.write_faults < new.write_faults
  pub unwritten : IsFalse writes → new.write_faults ≡ old.write_faults
  pub is : result ≡ settled parts ran closed reads writes

-- both
pub record HasEnded (workers : ℕ) (Tells : List PartLine → List ℕ → Type 0) (plan : PlanValue) (parts : List PartLine) (before : List (Option FileSeen)) (old new : Outside) (result : Result Ran Fault) : Type 0 where
  pub after : List (Option FileSeen)
  pub ran : Result Ran RunFault
  pub closed : Result (Unit {0}) Failed
  pub reads : Bool
  pub writes : Bool
  pub has_run : HasRun workers Tells plan before after ran
  pub closes : AreClosed after old new closed
  pub few : old.read_faults < 2 ^ 64
  pub read : IsTrue reads → old.read_faults < new.read_faults
  pub unread : IsFalse reads → new.read_faults ≡ old.read_faults
  pub wrote : IsTrue writes → old.write_faults < new.write_faults
  pub unwritten : IsFalse writes → new.write_faults ≡ old.write_faults
  pub is : result ≡ settled parts ran closed reads writes
