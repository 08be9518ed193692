use Rattle.std.proofs.Common.{◌≤◌, ◌+◌, length, Result}
use Rattle.line_text.specs.Lines.{lines_of}
use Rattle.script_lang.specs.LineByLine.{ComeTo}
use Rattle.script_lang.specs.PlayScripts.{PlayBefore, PlayComes, no_play, play_seen}
use Rattle.script_lang.specs.declared.script.ScriptFault.{ScriptFault}
use Rattle.script_lang.proofs.script.play_lines.Given as goal

abbrev pub invariant-loop-line : goal.invariant-loop-line
invariant-loop-line l = record {
  come : (outcome : Result PlayBefore ScriptFault) → ComeTo (PlayComes l.taken.script.now l.taken.log.now) (play_seen l.reading) l.number (lines_of l.rest) outcome
      → ComeTo (PlayComes l.taken.script.now l.taken.log.now) no_play 2 (lines_of l.text) outcome;
  small : l.number + length l.rest ≤ 65538;
}

abbrev pub decreases-loop-line : goal.decreases-loop-line
decreases-loop-line l = length l.rest
