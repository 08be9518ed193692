use Rattle.std.proofs.Common.{◌≡◌, ◌≤◌, ◌+◌, length, Result}
use Rattle.line_text.specs.Lines.{lines_of}
use Rattle.script_lang.specs.Known.{introduced}
use Rattle.script_lang.specs.Scripts.{Before, TraceComes, nothing_before, seen}
use Rattle.script_lang.specs.LineByLine.{ComeTo}
use Rattle.script_lang.specs.declared.script.ScriptFault.{ScriptFault}
use Rattle.script_lang.proofs.script.trace_lines.Given as goal

abbrev pub invariant-loop-line : goal.invariant-loop-line
invariant-loop-line l = record {
  come : (outcome : Result Before ScriptFault) → ComeTo TraceComes (seen l.reading) l.number (lines_of l.rest) outcome → ComeTo TraceComes nothing_before 2 (lines_of l.text) outcome;
  named : l.reading.names ≡ introduced l.reading.lines.items;
  small : l.number + length l.rest ≤ 65538;
}

abbrev pub decreases-loop-line : goal.decreases-loop-line
decreases-loop-line l = length l.rest
