use Rattle.std.proofs.Common.{◌≡◌, ◌+◌, ◌*◌, ◌%◌, ◌≤◌, ◌<◌, ◌++◌, ◌-◌, length, take, drop, min, refl, arith, length-drop}
use Rattle.std.proofs.lemmas.List.{length-take}
use Rattle.byteorder.specs.Endian.{big_bytes}
use Rattle.rtp_parts.specs.Packets.{header}
use Rattle.rtp_parts.specs.Packing.{packet_count}
use Rattle.rtp_parts.proofs.PackedTexts.{records_more, record_length}
use Rattle.rtp_parts.proofs.records.put_records.Goals as goal

pub loop-k-preserved : goal.loop-k-preserved
loop-k-preserved c =
    let from = 160 * c.loop-k.k in
    let to = c.min-to.result in
    let number = c.args.first + c.loop-k.k in
    let piece = take (to - from) (drop from c.args.samples.now) in
    let few : length piece ≤ 160 = omega (arith, c.min-to.ensures, length-take (to - from) (drop from c.args.samples.now), length-drop from c.args.samples.now) in
    let long = record_length c.args.companding (number % 65536) (160 * number) 1 (length (header c.args.companding (number % 65536) (160 * number) 1 ++ piece)) piece in
    let room : c.loop-k.at ≤ 174 * c.loop-k.k = c.loop-k.invariant.room in
    let stops : c.put_record-at.result ≡ c.loop-k.at + length (big_bytes 2 (length (header c.args.companding (number % 65536) (160 * number) 1 ++ piece)) ++ (header c.args.companding (number % 65536) (160 * number) 1 ++ piece)) = c.put_record-at.ensures.stops in
    record {
      room = omega (arith, stops, long, few, room);
      texts = λ all part.
          let below : c.loop-k.k < packet_count (length c.args.samples.now) = omega (arith, c.loop-k-test.true, c.div_ceil-k-end.ensures) in
          let ends : to ≡ min (length c.args.samples.now) (from + 160) = c.min-to.ensures in
          records_more c.args.companding all c.args.samples.now c.loop-k.out c.put_record-at.new.out piece c.args.first c.loop-k.k number c.loop-k.at c.put_record-at.result from to (packet_count (length c.args.samples.now)) part below refl refl ends (c.loop-k.invariant.texts all part) c.put_record-at.ensures.front;
    }
