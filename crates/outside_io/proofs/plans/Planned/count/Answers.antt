use Rattle.std.proofs.Common.{◌∙◌, ap, ◌<◌, length, sym, arith}
use Rattle.std.proofs.lemmas.Grind.{common_steps}
use Rattle.outside_io.specs.Fails.{fails_of}
use Rattle.outside_io.proofs.Failures.{counted-one, counted-none, fails_of-seen_more}
use Rattle.outside_io.proofs.plans.Planned.count.Goals as goal
use Rattle.outside_io.proofs.plans.Planned.count.Goals.{then-is_of, else-is_of}

pub loop-plan-preserved : goal.loop-plan-preserved
loop-plan-preserved c =
    let below : c.loop-plan.plan-index < length c.args.plans.now = omega (arith, c.loop-plan-test.true, c.loop-plan.auto.plans) in
    elim c.if-is_of.branch [
      | then-is_of w ↦ counted-one c.args.kind c.args.name.now c.args.more c.args.plans.now c.loop-plan.plans c.if-is_of.plans c.loop-plan.plan-index w.saturating_add-plan.result c.plan-item.result below c.loop-plan.invariant c.plan-item.is (sym c.is_of.ensures ∙ w.if-is_of.true) w.saturating_add-plan.ensures w.plans-is
      | else-is_of w ↦ counted-none c.args.kind c.args.name.now c.args.more c.args.plans.now c.loop-plan.plans c.if-is_of.plans c.loop-plan.plan-index c.plan-item.result below c.loop-plan.invariant c.plan-item.is (sym c.is_of.ensures ∙ w.if-is_of.false) w.plans-is
    ]

pub returns-clause-fails : goal.returns-clause-fails
returns-clause-fails c = ap fails_of (grind (arith, common_steps)) ∙ fails_of-seen_more c.args.kind c.args.name.now c.args.more c.args.plans.now
