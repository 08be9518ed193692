use Rattle.std.proofs.Common.{ℕ, ◌<◌}
use Rattle.audit_order.specs.Steps.{IsOverAt}
use Rattle.audit_order.proofs.steps.are_sinks_over.Given as goal

abbrev pub invariant-loop-place : goal.invariant-loop-place
invariant-loop-place l = (k : ℕ) → k < l.place → IsOverAt l.plan l.told k
