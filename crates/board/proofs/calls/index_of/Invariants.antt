use Rattle.std.proofs.Common.{◌≢◌, ◌<◌, ℕ, slice_get, Some}
use Rattle.board.proofs.calls.index_of.Given as goal

abbrev pub invariant-loop-i : goal.invariant-loop-i
invariant-loop-i l = (k : ℕ) → k < l.i → slice_get l.handles k ≢ Some l.h
