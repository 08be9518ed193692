use Rattle.std.proofs.Common.{◌≡◌, ◌-◌, ◌≤◌, max, take, drop}
use Rattle.std.specs.Io.KnownBytes.{append_known}
use Rattle.outside_io.specs.Moves.{WhereTold}
use Rattle.outside_io.proofs.moving.pump.Given as goal

abbrev pub invariant-loop-buf : goal.invariant-loop-buf
invariant-loop-buf g l = record {
  offset : g.S.Source.offset l.initial.source ≤ g.S.Source.offset l.source;
  told : g.S.Source.told l.source ≡ g.S.Source.told l.initial.source;
  source_name : g.S.Source.name l.source ≡ g.S.Source.name l.initial.source;
  ends : g.S.Source.ends l.source ≡ g.S.Source.ends l.initial.source;
  size : g.S.Source.size l.source ≡ g.S.Source.size l.initial.source;
  read : g.S.Source.faults l.source ≡ g.S.Source.faults l.initial.source;
  within_end : WhereTold (g.S.Source.ends l.initial.source) (λ end. g.S.Source.offset l.source ≤ max end (g.S.Source.offset l.initial.source));
  name : g.K.Sink.name l.sink ≡ g.K.Sink.name l.initial.sink;
  write : g.K.Sink.faults l.sink ≡ g.K.Sink.faults l.initial.sink;
  moved : WhereTold (g.S.Source.told l.initial.source) (λ bytes.
      g.K.Sink.told l.sink ≡ append_known (g.K.Sink.told l.initial.sink) (take (g.S.Source.offset l.source - g.S.Source.offset l.initial.source) (drop (g.S.Source.offset l.initial.source) bytes)));
}

abbrev pub decreases-loop-buf : goal.decreases-loop-buf
decreases-loop-buf g l = g.S.Source.size l.initial.source - g.S.Source.offset l.source
