use Rattle.std.proofs.Common.{ℕ, ◌<◌, get_or, pos, FitsSigned}
use mir.Syntax.{w32}
use Rattle.pcm_ops.proofs.items.each_sum_fits.Given as goal

abbrev pub invariant-loop-sum : goal.invariant-loop-sum
invariant-loop-sum l = (k : ℕ) → k < l.sum-index → FitsSigned w32 (get_or l.sums k (pos 0))
