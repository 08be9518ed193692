use Rattle.std.proofs.Common.{◌≡◌}
use Rattle.outside_io.specs.Fails.{planned}
use Rattle.outside_io.proofs.plans.Planned.all.Given as goal

abbrev pub invariant-loop-fail : goal.invariant-loop-fail
invariant-loop-fail l = l.plans.items ≡ planned l.yielded
