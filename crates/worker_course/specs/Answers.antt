-- What a play by workers answers, by its files as they were seen before and after it.
use Rattle.std.specs.Prelude.{ℕ, List, Option}
use Rattle.play_forms.specs.Plans.{PlanValue}
use Rattle.play_plan_laws.specs.Assemblies.{IsReady, PlayFiles}
use Rattle.play_log.specs.Scenes.{HaveOwnNames}
use Rattle.play_result_laws.specs.Gates.{GatesTellLog}
use Rattle.play_files.specs.Seen.{FileSeen}
use Rattle.play_course.specs.declared.player.RunFault.{RunFault}
use Rattle.play_course.specs.Failing.{LeavesBehind}
use Rattle.play_course.specs.Players.{AreFilesOf, IsFailed, IsPlayedWhole}
use Rattle.play_course.specs.Running.{IsRunCause}

-- The play was done whole: this is its log, of which the gates tell.
pub record IsDone {G : Type 0} (counts : G → Option (ℕ → ℕ)) (workers : ℕ) (plan : PlanValue) (before after : List (Option FileSeen)) (text : List ℕ) (gates : List G) : Type 0 where
  pub whole : (given : PlayFiles) → IsReady plan given → AreFilesOf plan given before → IsPlayedWhole workers plan given before after text
  -- gates tell the lines of a component by its name
  pub told : HaveOwnNames plan.parts → GatesTellLog counts gates plan.parts text

-- It wasn't, for this reason.
pub record IsBrokenOff (plan : PlanValue) (before after : List (Option FileSeen)) (fault : RunFault) : Type 0 where
  pub failed : (given : PlayFiles) → IsReady plan given → AreFilesOf plan given before → IsFailed plan given before after
  pub cause : IsRunCause before after fault
  pub left : (given : PlayFiles) → IsReady plan given → AreFilesOf plan given before → LeavesBehind plan given before after fault
