use Rattle.std.proofs.Common.{◌≡◌, ◌≤◌, ◌++◌, ◌-◌, length, take, drop}
use Rattle.line_text.specs.Words.{words_of}
use Rattle.line_text.specs.Lists.{texts}
use Rattle.line_text.proofs.line_words.LineWords.of.Given as goal

abbrev pub invariant-loop-start : goal.invariant-loop-start
invariant-loop-start l = record {
  words : words_of l.line ≡ texts (take l.count l.room) ++ words_of (drop l.place l.line);
  within : l.place ≤ length l.line;
  few : l.count ≤ 16;
  room : length l.room ≡ 16;
}

abbrev pub decreases-loop-start : goal.decreases-loop-start
decreases-loop-start l = length l.line - l.place
