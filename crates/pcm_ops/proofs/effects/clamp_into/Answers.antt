use Rattle.std.proofs.Common.{◌+◌, ◌*◌, [], ◌∷◌, map, take, length, get_or, FitsSigned, pos, to_z, of_z, refl, ap, sym, ◌∙◌, arith, w16, w32}
use Rattle.std.proofs.lemmas.List.{length-map, get_or-map}
use Rattle.std.proofs.lemmas.Simd.{length-chunk, length-put_chunk}
use Rattle.std.proofs.lemmas.Int.{to_z-of_z}
use lib.Lanes.{chunk}
use Rattle.pcm_ops.specs.Samples.{bytes, clamped}
use Rattle.pcm_ops.proofs.Pieces.{each_in_chunk, chunk-map, one_there}
use Rattle.pcm_ops.proofs.Bits.{passed, passed_fit, passed_sums, passed_sums_fit}
use Rattle.pcm_ops.proofs.ByteOrder.{more_bytes, all_bytes}
use Rattle.pcm_ops.proofs.effects.clamp_into.Goals as goal

pub loop-i-init : goal.loop-i-init
unfolding bytes
loop-i-init c = record { within = omega arith; two_each = c.requires; written = refl }

pub clamped_lanes-requires-clause-len : goal.clamped_lanes-requires-clause-len
clamped_lanes-requires-clause-len c =
    let part = chunk c.loop-i.i 16 c.args.sum.now in
    length-map (map (of_z w32) part) (to_z w32) ∙ length-map part (of_z w32) ∙ length-chunk c.loop-i.i 16 c.args.sum.now (omega arith)

pub clamped_lanes-requires-clause-fits : goal.clamped_lanes-requires-clause-fits
clamped_lanes-requires-clause-fits c =
    passed_sums_fit (chunk c.loop-i.i 16 c.args.sum.now) (each_in_chunk (FitsSigned w32) (pos 0) c.args.sum.now c.loop-i.i 16 (omega arith) c.each_sum_fits.ensures)

pub put_lanes-requires-clause-fits : goal.put_lanes-requires-clause-fits
put_lanes-requires-clause-fits c = passed_fit c.clamped_lanes.result c.clamped_lanes.ensures.fits

pub loop-i-preserved : goal.loop-i-preserved
loop-i-preserved c =
    let sum = c.args.sum.now in
    let to = c.loop-i.to in
    let i = c.loop-i.i in
    let long = length-map sum clamped in
    let part = each_in_chunk (FitsSigned w32) (pos 0) sum i 16 (omega arith) c.each_sum_fits.ensures in
    let stored = map (to_z w16) (map (of_z w16) c.clamped_lanes.result) in
    let lanes = passed c.clamped_lanes.result c.clamped_lanes.ensures.fits ∙ c.clamped_lanes.ensures.value
    ∙ ap (map clamped) (passed_sums (chunk i 16 sum) part) ∙ sym (chunk-map clamped i 16 sum) in
    record {
      within = omega arith;
      two_each = ap length c.put_lanes.ensures.value ∙ length-put_chunk (2 * i) to (bytes stored) ∙ c.loop-i.invariant.two_each;
      written = ap (take (2 * (i + 16))) c.put_lanes.ensures.value
          ∙ more_bytes (map clamped sum) stored to i 16 (omega (arith, long)) (omega (arith, long, c.loop-i.invariant.two_each)) c.loop-i.invariant.written lanes;
    }

pub loop-i-2-preserved : goal.loop-i-2-preserved
loop-i-2-preserved c =
    let sum = c.args.sum.now in
    let to = c.loop-i-2.to in
    let i = c.loop-i-2.i in
    let long = length-map sum clamped in
    let after : FitsSigned w16 c.clamped.result = record { sfits = c.clamped.type_inv } in
    let stored = to_z w16 (of_z w16 c.clamped.result) in
    let item = to_z-of_z w16 c.clamped.result after ∙ c.clamped.ensures
    ∙ ap clamped (to_z-of_z w32 (get_or sum i (pos 0)) (c.each_sum_fits.ensures i c.loop-i-2-test.true))
    ∙ sym (get_or-map clamped sum i (pos 0) (pos 0) c.loop-i-2-test.true) in
    record {
      within = omega arith;
      two_each = ap length c.put_sample.ensures.value ∙ length-put_chunk (2 * i) to (bytes (stored ∷ [])) ∙ c.loop-i-2.invariant.two_each;
      written = ap (take (2 * (i + 1))) c.put_sample.ensures.value
          ∙ more_bytes (map clamped sum) (stored ∷ []) to i 1 (omega (arith, long)) (omega (arith, long, c.loop-i-2.invariant.two_each)) c.loop-i-2.invariant.written
          (one_there (map clamped sum) i (pos 0) stored (omega (arith, long)) item);
    }

pub returns : goal.returns
returns c =
    let long = length-map c.args.sum.now clamped in
    all_bytes (map clamped c.args.sum.now) c.loop-i-2.to c.loop-i-2.i (omega (arith, long)) (omega (arith, long, c.loop-i-2.invariant.two_each)) c.loop-i-2.invariant.written
