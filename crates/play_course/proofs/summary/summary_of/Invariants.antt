use Rattle.std.proofs.Common.{◌≡◌, ◌++◌, drop, map}
use Rattle.play_course.specs.Sums.{line_value, planned_from, planned_summary}
use Rattle.play_course.proofs.summary.summary_of.Given as goal

abbrev pub invariant-loop-place : goal.invariant-loop-place
invariant-loop-place l = map line_value l.sinks.items ++ planned_from l.plan l.place (drop l.place l.plan.parts) ≡ planned_summary l.plan
