use Rattle.std.proofs.Common.{◌≡◌, ◌≤◌, ◌++◌, ◌-◌, length, drop}
use Rattle.line_text.specs.Words.{words_of}
use Rattle.line_text.specs.Lists.{after_spaces, spaced}
use Rattle.script_lang.proofs.saying.spaced_text.Given as goal

abbrev pub invariant-loop-start : goal.invariant-loop-start
invariant-loop-start l = record {
  words : spaced (words_of l.line) ≡ l.bytes.items ++ after_spaces (words_of (drop l.place l.line));
  within : l.place ≤ length l.line;
}

abbrev pub decreases-loop-start : goal.decreases-loop-start
decreases-loop-start l = length l.line - l.place
