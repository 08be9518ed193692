use Rattle.std.proofs.Common.{◌≡◌, ◌≤◌, ◌+◌, take, length, Ok}
use Rattle.outside_io.specs.Keeping.{KeepsSink}
use Rattle.play_log.specs.Gathering.{Puts}
use Rattle.play_log.specs.Spelled.{spelled_from}
use Rattle.play_log.proofs.log_text.put_lines.Given as goal

abbrev pub invariant-loop-line : goal.invariant-loop-line
invariant-loop-line g l = record {
  within : l.line-index ≤ length l.lines;
  number : l.number ≡ l.before + l.line-index;
  puts : Puts {T = Unit {0}} {E = Unit {0}} (g.K.Sink.told l.initial.sink) (g.K.Sink.told l.sink) l.initial.held.held l.held.held (spelled_from l.words (l.before + 1) (take l.line-index l.lines)) (Ok tt);
  keeps : KeepsSink g.K.Sink l.initial.sink l.sink;
  faults : g.K.Sink.faults l.sink ≡ g.K.Sink.faults l.initial.sink;
}
