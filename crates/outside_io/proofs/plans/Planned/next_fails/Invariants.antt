use Rattle.std.proofs.Common.{◌≡◌, drop}
use Rattle.outside_io.specs.Fails.{next_fails}
use Rattle.outside_io.proofs.plans.Planned.next_fails.Given as goal

abbrev pub invariant-loop-plan : goal.invariant-loop-plan
invariant-loop-plan l = next_fails l.kind l.name (drop l.plan-index l.plans) ≡ next_fails l.kind l.name l.plans
