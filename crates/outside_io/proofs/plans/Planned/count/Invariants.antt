use Rattle.std.proofs.Common.{◌≡◌, ◌++◌, take, drop}
use Rattle.outside_io.specs.Fails.{seen_more}
use Rattle.outside_io.proofs.plans.Planned.count.Given as goal

abbrev pub invariant-loop-plan : goal.invariant-loop-plan
invariant-loop-plan l = l.plans ≡ seen_more l.kind l.name l.more (take l.plan-index l.initial.plans) ++ drop l.plan-index l.initial.plans
