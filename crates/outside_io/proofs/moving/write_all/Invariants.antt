use Rattle.std.proofs.Common.{length, ◌-◌, ◌≡◌, ◌≤◌, take, Some}
use Rattle.std.specs.Io.KnownBytes.{append_known}
use Rattle.outside_io.specs.declared.writing.Writing.TheVariants.{Going}
use Rattle.outside_io.proofs.moving.write_all.Given as goal

abbrev pub invariant-loop-done : goal.invariant-loop-done
invariant-loop-done g l = record {
  within : l.done ≤ length l.piece;
  told : g.K.Sink.told l.sink ≡ append_known (g.K.Sink.told l.initial.sink) (take l.done l.piece);
  name : g.K.Sink.name l.sink ≡ g.K.Sink.name l.initial.sink;
  faults : g.K.Sink.faults l.sink ≡ g.K.Sink.faults l.initial.sink;
  writing : g.K.Sink.writing l.initial.sink ≡ Some Going → g.K.Sink.writing l.sink ≡ Some Going;
}

abbrev pub decreases-loop-done : goal.decreases-loop-done
decreases-loop-done g l = length l.piece - l.done
