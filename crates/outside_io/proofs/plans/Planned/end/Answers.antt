use Rattle.std.proofs.Common.{arith}
use Rattle.outside_io.specs.Fails.{fails_of}
use Rattle.outside_io.proofs.Failures.{end_of-bound, end-reached}
use Rattle.outside_io.proofs.plans.Planned.end.Goals as goal

pub loop-plan-init : goal.loop-plan-init
loop-plan-init c = record { fits = omega arith; least = omega (arith, end_of-bound (fails_of c.args.plans.now) c.args.name.now) }

pub returns : goal.returns
returns c = end-reached c.args.plans.now c.args.name.now c.loop-plan.plan-index c.loop-plan.end _ (omega (arith, c.loop-plan-test.false)) c.loop-plan.invariant.fits c.loop-plan.invariant.least
