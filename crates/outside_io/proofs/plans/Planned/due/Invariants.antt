use Rattle.std.proofs.Common.{◌≡◌, ◌++◌, drop}
use Rattle.outside_io.specs.Fails.{due_of}
use Rattle.outside_io.proofs.plans.Planned.due.Given as goal

abbrev pub invariant-loop-plan : goal.invariant-loop-plan
invariant-loop-plan l = l.due.items ++ due_of l.kind l.name (drop l.plan-index l.plans) ≡ due_of l.kind l.name l.plans
