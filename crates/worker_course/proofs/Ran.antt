-- What a run by workers came to, as the course of a play has it.
use Rattle.std.proofs.Common.{◌≡◌, ℕ, List, Option, Ok, Err}
use Rattle.script_lang.specs.declared.play_line.PartLine.{PartLine}
use Rattle.play_forms.specs.Plans.{PlanValue}
use Rattle.play_log.specs.Scenes.{HaveOwnNames}
use Rattle.play_result_laws.specs.Gates.{GatesTellLog}
use Rattle.play_result_laws.specs.Summaries.{SinkLine}
use Rattle.play_files.specs.Seen.{FileSeen}
use Rattle.play_course.specs.declared.player.RunFault.{RunFault}
use Rattle.play_course.specs.Courses.{HasRun}
use Rattle.play_course.specs.Running.{AreSameFiles}
use Rattle.play_course.specs.Sums.{planned_summary}
use Rattle.worker_course.specs.Answers.{IsBrokenOff, IsDone}

module _ {G : Type 0} (counts : G → Option (ℕ → ℕ)) (plan : PlanValue) (before after : List (Option FileSeen)) where
  abbrev pub Tells : List G → List PartLine → List ℕ → Type 0
  Tells gates parts text = HaveOwnNames parts → GatesTellLog counts gates parts text

  pub run_done : (workers : ℕ) (gates : List G) (text : List ℕ) (summary : List SinkLine) → summary ≡ planned_summary plan → AreSameFiles before after → IsDone counts workers plan before after text gates
      → HasRun workers (Tells gates) plan before after (Ok (record { text = text; summary = summary }))
  run_done workers gates text summary e same done = record { same = same; told = e; whole = done.whole; gates = done.told; failed = tt; cause = tt; left = tt }

  pub run_broken : (workers : ℕ) (gates : List G) (fault : RunFault) → AreSameFiles before after → IsBrokenOff plan before after fault → HasRun workers (Tells gates) plan before after (Err fault)
  run_broken workers gates fault same broken = record { same = same; told = tt; whole = tt; gates = tt; failed = broken.failed; cause = broken.cause; left = broken.left }
