use Rattle.std.proofs.Common.{ℕ, ◌<◌}
use Rattle.audit_order.specs.Steps.{IsChangedAt}
use Rattle.audit_order.proofs.order.Order.are_lates_changed.Given as goal

abbrev pub invariant-loop-place : goal.invariant-loop-place
invariant-loop-place l = (k : ℕ) → k < l.place → IsChangedAt l.plan l.self.changed k
