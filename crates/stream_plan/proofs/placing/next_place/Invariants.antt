use Rattle.std.proofs.Common.{◌≡◌, ℕ, ◌<◌, false}
use Rattle.play_forms.specs.Placing.{can_place}
use Rattle.stream_plan.proofs.placing.next_place.Given as goal

abbrev pub invariant-loop-place : goal.invariant-loop-place
invariant-loop-place l = (k : ℕ) → k < l.place → can_place l.joints l.placed k ≡ false
