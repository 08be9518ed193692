use Rattle.std.proofs.Common.{◌≡◌, ◌+◌, ◌-◌, ◌*◌, ◌/◌, ◌<◌, ◌≤◌, max, take, drop, length}
use Rattle.std.specs.Io.KnownBytes.{append_known}
use Rattle.outside_io.specs.Moves.{WhereTold}
use Rattle.rtp_parts.specs.Packing.{packet_count, texts_of}
use Rattle.rtp_parts.proofs.packing.pack_samples.Given as goal

abbrev pub invariant-loop-done : goal.invariant-loop-done
invariant-loop-done g l = record {
  within : l.done ≤ l.frames;
  cut : l.done < l.frames → 160 * (l.done / 160) ≡ l.done;
  samples : length l.samples ≡ 20480;
  records : length l.records ≡ 22272;
  offset : g.S.Source.offset l.src ≡ g.S.Source.offset l.initial.src + l.done;
  told : g.S.Source.told l.src ≡ g.S.Source.told l.initial.src;
  src_name : g.S.Source.name l.src ≡ g.S.Source.name l.initial.src;
  ends : g.S.Source.ends l.src ≡ g.S.Source.ends l.initial.src;
  size : g.S.Source.size l.src ≡ g.S.Source.size l.initial.src;
  read : g.S.Source.faults l.src ≡ g.S.Source.faults l.initial.src;
  within_end : WhereTold (g.S.Source.ends l.initial.src) (λ end. g.S.Source.offset l.src ≤ max end (g.S.Source.offset l.initial.src));
  name : g.K.Sink.name l.snk ≡ g.K.Sink.name l.initial.snk;
  write : g.K.Sink.faults l.snk ≡ g.K.Sink.faults l.initial.snk;
  sent : WhereTold (g.S.Source.told l.initial.src) (λ bytes. g.K.Sink.told l.snk ≡ append_known (g.K.Sink.told l.initial.snk)
      (texts_of l.companding (take l.frames (drop (g.S.Source.offset l.initial.src) bytes)) 0 (packet_count l.done)));
}

abbrev pub decreases-loop-done : goal.decreases-loop-done
decreases-loop-done g l = l.frames - l.done
