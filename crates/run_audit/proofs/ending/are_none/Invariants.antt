use Rattle.std.proofs.Common.{◌≡◌, ◌<◌, ℕ, None, Some, slice_get}
use Rattle.run_audit.proofs.ending.are_none.Given as goal

abbrev pub invariant-loop-thing : goal.invariant-loop-thing
invariant-loop-thing g l = (place : ℕ) → place < l.thing-index → slice_get l.things place ≡ Some None
