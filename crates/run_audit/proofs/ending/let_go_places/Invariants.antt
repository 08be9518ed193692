use Rattle.std.proofs.Common.{◌≡◌, ◌<◌, ℕ, None, Some, length, slice_get}
use Rattle.std.specs.Vec.{vec_len}
use Rattle.run_audit.proofs.ending.let_go_places.Given as goal

abbrev pub invariant-loop-thing : goal.invariant-loop-thing
invariant-loop-thing g l = (place : ℕ) → place < length l.rest.items → slice_get l.rest.items place ≡ Some None

abbrev pub decreases-loop-thing : goal.decreases-loop-thing
decreases-loop-thing g l = vec_len l.rest
