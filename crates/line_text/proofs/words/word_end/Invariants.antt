use Rattle.std.proofs.Common.{ℕ, ◌<◌, ◌≤◌, slice_index}
use Rattle.line_text.specs.Words.{IsBlank}
use Rattle.line_text.proofs.words.word_end.Given as goal

abbrev pub invariant-loop-place : goal.invariant-loop-place
invariant-loop-place l = (k : ℕ) → l.start ≤ k → k < l.place → ¬ (IsBlank (slice_index l.line k))
