use Rattle.std.proofs.Common.{◌≤◌, ◌+◌, ℕ, length}
use Rattle.line_text.specs.Lines.{lines_of}
use Rattle.omx_types.specs.declared.fault.ScriptWhy.{ScriptWhy}
use Rattle.clock_core.specs.Script.{AreGood, FaultsFrom}
use Rattle.clock_core.proofs.run.read_lines.Given as goal

abbrev pub invariant-loop-line : goal.invariant-loop-line
invariant-loop-line l = record {
  good : AreGood (lines_of l.rest) → AreGood (lines_of l.text);
  faults : (line : ℕ) (why : ScriptWhy) → FaultsFrom l.number (lines_of l.rest) line why → FaultsFrom 2 (lines_of l.text) line why;
  small : l.number + length l.rest ≤ 65538;
}

abbrev pub decreases-loop-line : goal.decreases-loop-line
decreases-loop-line l = length l.rest
