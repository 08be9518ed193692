use Rattle.std.proofs.Common.{◌≡◌, ◌+◌, ◌-◌, ◌≤◌, ◌^◌, ◌++◌, List, ℕ, length, drop}
use Rattle.std.specs.Io.KnownBytes.{append_known}
use Rattle.outside_io.specs.Moves.{WhereTold}
use Rattle.rtp_parts.specs.Packets.{silence_of}
use Rattle.rtp_parts.specs.Steps.{codes_left, whole_codes, room_left, steps_left}
use Rattle.rtp_parts.proofs.unpacking.write_codes.Given as goal

abbrev pub invariant-pieces : goal.invariant-pieces
invariant-pieces g l = record {
  sent : WhereTold (g.S.Source.told l.initial.src) (λ bytes. (done : List ℕ)
      × (whole_codes (silence_of l.companding) (drop (g.S.Source.offset l.initial.src) bytes) ≡ done ++ codes_left (silence_of l.companding) l.unpacker (drop (g.S.Source.offset l.src) bytes))
      × (g.K.Sink.told l.snk ≡ append_known (g.K.Sink.told l.initial.snk) done));
  few : l.unpacker.packets + room_left l.unpacker (g.S.Source.size l.initial.src - g.S.Source.offset l.src) ≤ 2 ^ 27;
  room : length l.buffer ≡ 65535;
  reached : WhereTold (g.S.Source.ends l.initial.src) (λ end. g.S.Source.offset l.src ≤ end);
  told : g.S.Source.told l.src ≡ g.S.Source.told l.initial.src;
  src_name : g.S.Source.name l.src ≡ g.S.Source.name l.initial.src;
  ends : g.S.Source.ends l.src ≡ g.S.Source.ends l.initial.src;
  size : g.S.Source.size l.src ≡ g.S.Source.size l.initial.src;
  read : g.S.Source.faults l.src ≡ g.S.Source.faults l.initial.src;
  name : g.K.Sink.name l.snk ≡ g.K.Sink.name l.initial.snk;
  write : g.K.Sink.faults l.snk ≡ g.K.Sink.faults l.initial.snk;
}

abbrev pub decreases-pieces : goal.decreases-pieces
decreases-pieces g l = steps_left l.unpacker (g.S.Source.size l.src - g.S.Source.offset l.src)
