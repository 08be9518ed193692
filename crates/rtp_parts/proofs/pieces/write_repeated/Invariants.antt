use Rattle.std.proofs.Common.{◌≡◌, ◌-◌, ◌≤◌, replicate}
use Rattle.std.specs.Io.KnownBytes.{append_known}
use Rattle.rtp_parts.proofs.pieces.write_repeated.Given as goal

abbrev pub invariant-loop-done : goal.invariant-loop-done
invariant-loop-done g l = record {
  within : l.done ≤ l.count;
  told : g.K.Sink.told l.snk ≡ append_known (g.K.Sink.told l.initial.snk) (replicate l.done l.code);
  name : g.K.Sink.name l.snk ≡ g.K.Sink.name l.initial.snk;
  stays : g.K.Sink.faults l.snk ≡ g.K.Sink.faults l.initial.snk;
}

abbrev pub decreases-loop-done : goal.decreases-loop-done
decreases-loop-done g l = l.count - l.done
