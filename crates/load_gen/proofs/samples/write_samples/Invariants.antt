use Rattle.std.proofs.Common.{◌≡◌, ◌≤◌, ◌-◌, length}
use Rattle.std.specs.Io.KnownBytes.{append_known}
use Rattle.load_gen.specs.Samples.{after, samples}
use Rattle.load_gen.proofs.samples.write_samples.Given as goal

abbrev pub invariant-loop-left : goal.invariant-loop-left
invariant-loop-left g l = record {
  within : l.left ≤ l.frames;
  room : length l.piece ≡ 8192;
  number : l.number ≡ after (l.frames - l.left) l.x;
  told : g.K.Sink.told l.sink ≡ append_known (g.K.Sink.told l.initial.sink) (samples (l.frames - l.left) l.x);
  name : g.K.Sink.name l.sink ≡ g.K.Sink.name l.initial.sink;
  faults : g.K.Sink.faults l.sink ≡ g.K.Sink.faults l.initial.sink;
}

abbrev pub decreases-loop-left : goal.decreases-loop-left
decreases-loop-left g l = l.left
