use Rattle.std.proofs.Common.{◌+◌, ◌*◌, [], ◌∷◌, map, take, length, FitsSigned, Fits, pos, to_z, of_z, ap, sym, ◌∙◌, refl, arith, w8, w16}
use Rattle.std.proofs.lemmas.List.{length-map, get_or-map}
use Rattle.std.proofs.lemmas.Simd.{length-chunk, length-put_chunk}
use Rattle.std.proofs.lemmas.Int.{to_z-of_z}
use Rattle.pcm_ops.specs.Samples.{bytes}
use Rattle.pcm_ops.proofs.Bits.{passed, passed_fit}
use Rattle.pcm_ops.proofs.ByteOrder.{more_bytes, all_bytes}
use Rattle.pcm_ops.proofs.Pieces.{each_in_chunk, chunk-map, one_there}
use Rattle.g711_law.proofs.slices.decode_all.Goals as goal

pub loop-i-init : goal.loop-i-init
unfolding bytes
loop-i-init g c = record { within = omega arith; two_each = c.requires; written = refl }

pub decode_lanes-requires-clause-len : goal.decode_lanes-requires-clause-len
decode_lanes-requires-clause-len g c = length-chunk c.loop-i.i 16 c.args.from.now (omega arith)

pub decode_lanes-requires-clause-fits : goal.decode_lanes-requires-clause-fits
decode_lanes-requires-clause-fits g c = each_in_chunk (Fits w8) 0 c.args.from.now c.loop-i.i 16 (omega arith) (λ k l. c.type_inv.from k)

pub put_lanes-requires-clause-fits : goal.put_lanes-requires-clause-fits
put_lanes-requires-clause-fits g c = passed_fit c.decode_lanes.result c.decode_lanes.ensures.fits

pub loop-i-preserved : goal.loop-i-preserved
loop-i-preserved g c =
    let from = c.args.from.now in
    let to = c.loop-i.to in
    let i = c.loop-i.i in
    let value = g.L.Compander.value in
    let long = length-map from value in
    let stored = map (to_z w16) (map (of_z w16) c.decode_lanes.result) in
    let lanes = passed c.decode_lanes.result c.decode_lanes.ensures.fits ∙ c.decode_lanes.ensures.value ∙ sym (chunk-map value i 16 from) in
    record {
      within = omega arith;
      two_each = ap length c.put_lanes.ensures.value ∙ length-put_chunk (2 * i) to (bytes stored) ∙ c.loop-i.invariant.two_each;
      written = ap (take (2 * (i + 16))) c.put_lanes.ensures.value
          ∙ more_bytes (map value from) stored to i 16 (omega (arith, long)) (omega (arith, long, c.loop-i.invariant.two_each)) c.loop-i.invariant.written lanes;
    }

pub loop-i-2-preserved : goal.loop-i-2-preserved
loop-i-2-preserved g c =
    let from = c.args.from.now in
    let to = c.loop-i-2.to in
    let i = c.loop-i-2.i in
    let value = g.L.Compander.value in
    let long = length-map from value in
    let fits : FitsSigned w16 c.decode.result = record { sfits = c.decode.type_inv } in
    let stored = to_z w16 (of_z w16 c.decode.result) in
    let item = to_z-of_z w16 c.decode.result fits ∙ c.decode.ensures ∙ sym (get_or-map value from i 0 (pos 0) c.loop-i-2-test.true) in
    record {
      within = omega arith;
      two_each = ap length c.put_sample.ensures.value ∙ length-put_chunk (2 * i) to (bytes (stored ∷ [])) ∙ c.loop-i-2.invariant.two_each;
      written = ap (take (2 * (i + 1))) c.put_sample.ensures.value
          ∙ more_bytes (map value from) (stored ∷ []) to i 1 (omega (arith, long)) (omega (arith, long, c.loop-i-2.invariant.two_each)) c.loop-i-2.invariant.written
          (one_there (map value from) i (pos 0) stored (omega (arith, long)) item);
    }

pub returns : goal.returns
returns g c =
    let long = length-map c.args.from.now g.L.Compander.value in
    all_bytes (map g.L.Compander.value c.args.from.now) c.loop-i-2.to c.loop-i-2.i (omega (arith, long)) (omega (arith, long, c.loop-i-2.invariant.two_each)) c.loop-i-2.invariant.written
