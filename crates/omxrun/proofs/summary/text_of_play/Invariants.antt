use Rattle.std.proofs.Common.{◌≡◌, ◌≤◌, ◌*◌, ◌++◌, drop, length, map}
use Rattle.play_result_laws.specs.Summaries.{summary_text}
use Rattle.play_course.specs.Sums.{line_value}
use Rattle.omxrun.proofs.summary.text_of_play.Given as goal

-- the text so far and that of the sinks to come are the whole
abbrev pub invariant-loop-number : goal.invariant-loop-number
invariant-loop-number l = record {
  told : l.text ++ summary_text l.parts (map line_value (drop l.number l.sinks)) ≡ summary_text l.parts (map line_value l.sinks);
  short : length l.text ≤ l.number * 77;
}
