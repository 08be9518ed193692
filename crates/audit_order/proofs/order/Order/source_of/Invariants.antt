use Rattle.std.proofs.Common.{ℕ, ◌<◌}
use Rattle.audit_order.specs.Steps.{MayChange}
use Rattle.audit_order.proofs.order.Order.source_of.Given as goal

abbrev pub invariant-loop-source : goal.invariant-loop-source
invariant-loop-source l = (k : ℕ) → k < l.source → MayChange l.plan l.told l.self.changed k l.act → ⊥
