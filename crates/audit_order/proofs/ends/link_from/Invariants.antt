use Rattle.std.proofs.Common.{◌≡◌, ℕ, ◌<◌, false, get_or}
use Rattle.play_forms.specs.declared.joint.Joint.{Joint}
use Rattle.audit_order.specs.Ends.{gives}
use Rattle.audit_order.proofs.ends.link_from.Given as goal

abbrev pub invariant-loop-place : goal.invariant-loop-place
invariant-loop-place l = (d : Joint) (k : ℕ) → k < l.place → gives l.source (get_or l.joints k d) ≡ false
