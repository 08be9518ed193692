use Rattle.std.proofs.Common.{length, ◌-◌, ℕ, ◌<◌, ◌≤◌, slice_index}
use Rattle.line_text.specs.Words.{IsBlank}
use Rattle.line_text.proofs.words.blanks_end.Given as goal

abbrev pub invariant-loop-place : goal.invariant-loop-place
invariant-loop-place l = record {
  at_or_after : l.from ≤ l.place;
  blanks : (k : ℕ) → l.from ≤ k → k < l.place → k < length l.line → IsBlank (slice_index l.line k);
}

abbrev pub decreases-loop-place : goal.decreases-loop-place
decreases-loop-place l = length l.line - l.place
