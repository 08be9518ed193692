use Rattle.std.proofs.Common.{◌≡◌, ℕ, ◌<◌, ◌+◌, false, nat_lt, subst, arith}
use Rattle.std.proofs.lemmas.Bool.{ltb-true, ltb-false}
use Rattle.play_forms.proofs.Places.{either}
use Rattle.audit_order.specs.Steps.{MayChange}
use Rattle.audit_order.proofs.order.Order.source_of.Goals as goal

pub loop-source-preserved : goal.loop-source-preserved
loop-source-preserved c = λ k below M. either (nat_lt k c.loop-source.source)
    (λ t. c.loop-source.invariant k (ltb-true k c.loop-source.source t) M)
    (λ f.
    let past = ltb-false k c.loop-source.source f in
    let e : k ≡ c.loop-source.source = omega (arith, below, past) in
    c.may_change.ensures.no c.if-may_change.false (subst (λ (n : ℕ). MayChange c.args.plan.now c.args.told.now c.args.self.now.changed n c.args.act.now) e M))
