use Rattle.std.proofs.Common.{◌≡◌, ◌≤◌, ◌+◌, length, Some}
use Rattle.line_text.specs.Lines.{lines_of}
use Rattle.outside_io.specs.declared.writing.Writing.TheVariants.{Going}
use Rattle.clock_core.specs.Clock.{opening}
use Rattle.clock_core.specs.Printed.{calls_in, printed}
use Rattle.clock_core.proofs.Sent.{Sent}
use Rattle.clock_core.proofs.run.run_lines.Given as goal

abbrev pub invariant-loop-line : goal.invariant-loop-line
invariant-loop-line g l = record {
  sent : Sent (g.O.Sink.told l.initial.out) (g.O.Sink.told l.out) (printed l.number l.clock (calls_in (lines_of l.rest))) (printed 1 opening (calls_in (lines_of l.text)));
  small : l.number + length l.rest ≤ 65538;
  later : g.O.Sink.faults l.initial.out ≤ g.O.Sink.faults l.out;
  stays : g.O.Sink.faults l.out ≡ g.O.Sink.faults l.initial.out;
  name : g.O.Sink.name l.out ≡ g.O.Sink.name l.initial.out;
  writing : g.O.Sink.writing l.initial.out ≡ Some Going → g.O.Sink.writing l.out ≡ Some Going;
}

abbrev pub decreases-loop-line : goal.decreases-loop-line
decreases-loop-line g l = length l.rest
