use Rattle.std.proofs.Common.{◌≡◌, drop}
use Rattle.outside_io.specs.Fails.{refuses, fails_of}
use Rattle.outside_io.proofs.plans.Planned.may_refuse.Given as goal

abbrev pub invariant-loop-plan : goal.invariant-loop-plan
invariant-loop-plan l = refuses (fails_of (drop l.plan-index l.plans)) l.name ≡ refuses (fails_of l.plans) l.name
