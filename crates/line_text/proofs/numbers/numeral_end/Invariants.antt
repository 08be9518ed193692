use Rattle.std.proofs.Common.{ℕ, ◌<◌}
use Rattle.line_text.specs.Numbers.{CanStand}
use Rattle.line_text.proofs.numbers.numeral_end.Given as goal

abbrev pub invariant-loop-place : goal.invariant-loop-place
invariant-loop-place l = (k : ℕ) → k < l.place → CanStand l.word k
