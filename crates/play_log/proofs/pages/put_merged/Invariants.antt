use Rattle.std.proofs.Common.{◌≡◌, take, drop, Ok}
use Rattle.outside_io.specs.Keeping.{KeepsSink}
use Rattle.play_log.specs.Gathering.{Puts}
use Rattle.play_log.specs.Merged.{left_of, merged_all}
use Rattle.play_log.specs.Places.{lists_of, numbered_from, text_place}
use Rattle.play_log.proofs.pages.put_merged.Given as goal

abbrev pub invariant-loop-number : goal.invariant-loop-number
invariant-loop-number g l = record {
  left : merged_all text_place (left_of l.at (lists_of l.logs)) ≡ drop l.number (merged_all text_place (lists_of l.logs));
  puts : Puts {T = Unit {0}} {E = Unit {0}} (g.K.Sink.told l.initial.sink) (g.K.Sink.told l.sink) l.initial.held.held l.held.held (numbered_from 1 (take l.number (merged_all text_place (lists_of l.logs)))) (Ok tt);
  keeps : KeepsSink g.K.Sink l.initial.sink l.sink;
  faults : g.K.Sink.faults l.sink ≡ g.K.Sink.faults l.initial.sink;
}
