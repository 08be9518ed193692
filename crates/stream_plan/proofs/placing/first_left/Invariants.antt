use Rattle.std.proofs.Common.{◌≡◌, ℕ, ◌<◌, true}
use Rattle.play_forms.specs.Placing.{has_place}
use Rattle.stream_plan.proofs.placing.first_left.Given as goal

abbrev pub invariant-loop-place : goal.invariant-loop-place
invariant-loop-place l = (k : ℕ) → k < l.place → has_place l.placed k ≡ true
