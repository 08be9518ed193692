use Rattle.std.proofs.Common.{◌+◌, ◌*◌, ◌/◌, [], ◌∷◌, map, take, length, FitsSigned, pos, to_z, of_z, refl, ap, sym, ◌∙◌, arith, w16}
use Rattle.std.proofs.lemmas.List.{length-map, get_or-map}
use Rattle.std.proofs.lemmas.Simd.{length-put_chunk}
use Rattle.std.proofs.lemmas.Int.{to_z-of_z}
use Rattle.pcm_ops.specs.Samples.{samples, bytes, gained}
use Rattle.pcm_ops.proofs.Pieces.{chunk-map, one_there}
use Rattle.pcm_ops.proofs.Bits.{passed, passed_fit, passed_sums_fit, scaled_passed, gained_lanes, gained_item}
use Rattle.pcm_ops.proofs.ByteOrder.{length-samples, more_bytes, all_bytes}
use Rattle.pcm_ops.proofs.effects.gain_into.Goals as goal

pub loop-i-init : goal.loop-i-init
unfolding bytes
loop-i-init c = record { within = omega arith; from = omega (arith, c.requires.whole); to = omega (arith, c.requires.whole, c.requires.same_length); written = refl }

pub scaled_lanes-requires-clause-fits : goal.scaled_lanes-requires-clause-fits
scaled_lanes-requires-clause-fits c = passed_fit c.lanes_at.result c.lanes_at.ensures.fits

pub clamped_lanes-requires-clause-fits : goal.clamped_lanes-requires-clause-fits
clamped_lanes-requires-clause-fits c =
    passed_sums_fit c.scaled_lanes.result (scaled_passed c.args.gain c.lanes_at.result c.scaled_lanes.result (omega arith) c.lanes_at.ensures.fits c.scaled_lanes.ensures.value).1

pub put_lanes-requires-clause-fits : goal.put_lanes-requires-clause-fits
put_lanes-requires-clause-fits c = passed_fit c.clamped_lanes.result c.clamped_lanes.ensures.fits

pub loop-i-preserved : goal.loop-i-preserved
loop-i-preserved c =
    let from = samples c.args.from.now in
    let to = c.loop-i.to in
    let i = c.loop-i.i in
    let gain = gained c.args.gain in
    let long = length-map from gain ∙ length-samples (length c.args.from.now / 2) c.args.from.now c.loop-i.invariant.from in
    let stored = map (to_z w16) (map (of_z w16) c.clamped_lanes.result) in
    let lanes = passed c.clamped_lanes.result c.clamped_lanes.ensures.fits
    ∙ gained_lanes c.args.gain c.lanes_at.result c.scaled_lanes.result c.clamped_lanes.result (omega arith) c.lanes_at.ensures.fits c.scaled_lanes.ensures.value c.clamped_lanes.ensures.value
    ∙ ap (map gain) c.lanes_at.ensures.value ∙ sym (chunk-map gain i 16 from) in
    record {
      within = omega arith;
      from = c.loop-i.invariant.from;
      to = ap length c.put_lanes.ensures.value ∙ length-put_chunk (2 * i) to (bytes stored) ∙ c.loop-i.invariant.to;
      written = ap (take (2 * (i + 16))) c.put_lanes.ensures.value
          ∙ more_bytes (map gain from) stored to i 16 (omega (arith, long)) (omega (arith, long, c.loop-i.invariant.to)) c.loop-i.invariant.written lanes;
    }

pub loop-i-2-preserved : goal.loop-i-2-preserved
loop-i-2-preserved c =
    let from = samples c.args.from.now in
    let to = c.loop-i-2.to in
    let i = c.loop-i-2.i in
    let gain = gained c.args.gain in
    let many = length-samples (length c.args.from.now / 2) c.args.from.now c.loop-i-2.invariant.from in
    let long = length-map from gain ∙ many in
    let before : FitsSigned w16 c.sample_at.result = record { sfits = c.sample_at.type_inv } in
    let after : FitsSigned w16 c.clamped.result = record { sfits = c.clamped.type_inv } in
    let stored = to_z w16 (of_z w16 c.clamped.result) in
    let item = to_z-of_z w16 c.clamped.result after
    ∙ gained_item c.args.gain c.sample_at.result c.scaled.result c.clamped.result (omega arith) before c.scaled.ensures.value c.clamped.ensures
    ∙ ap gain c.sample_at.ensures ∙ sym (get_or-map gain from i (pos 0) (pos 0) (omega (arith, many))) in
    record {
      within = omega arith;
      from = c.loop-i-2.invariant.from;
      to = ap length c.put_sample.ensures.value ∙ length-put_chunk (2 * i) to (bytes (stored ∷ [])) ∙ c.loop-i-2.invariant.to;
      written = ap (take (2 * (i + 1))) c.put_sample.ensures.value
          ∙ more_bytes (map gain from) (stored ∷ []) to i 1 (omega (arith, long)) (omega (arith, long, c.loop-i-2.invariant.to)) c.loop-i-2.invariant.written
          (one_there (map gain from) i (pos 0) stored (omega (arith, long)) item);
    }

pub returns : goal.returns
returns c =
    let from = samples c.args.from.now in
    let gain = gained c.args.gain in
    let long = length-map from gain ∙ length-samples (length c.args.from.now / 2) c.args.from.now c.loop-i-2.invariant.from in
    all_bytes (map gain from) c.loop-i-2.to c.loop-i-2.i (omega (arith, long)) (omega (arith, long, c.loop-i-2.invariant.to)) c.loop-i-2.invariant.written
