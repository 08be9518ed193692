use Rattle.std.proofs.Common.{map, length, FitsSigned, pos, ap, ◌∙◌, refl, arith, w16, length-set}
use Rattle.std.proofs.lemmas.Simd.{length-put_chunk}
use Rattle.std.proofs.lemmas.Int.{to_z-of_z}
use Rattle.pcm_ops.specs.Samples.{samples}
use Rattle.pcm_ops.proofs.Bits.{passed, passed_fit}
use Rattle.pcm_ops.proofs.ByteOrder.{length-samples}
use Rattle.pcm_ops.proofs.Pieces.{vector_step, item_step, all_written}
use Rattle.g711_law.proofs.slices.encode_all.Goals as goal

pub loop-to-init : goal.loop-to-init
loop-to-init g c = record { within = omega arith; two_each = c.requires; written = refl }

pub encode_lanes-requires-clause-fits : goal.encode_lanes-requires-clause-fits
encode_lanes-requires-clause-fits g c = passed_fit c.lanes_at.result c.lanes_at.ensures.fits

pub loop-to-preserved : goal.loop-to-preserved
loop-to-preserved g c =
    let from = samples c.args.from.now in
    let to = c.loop-to.to in
    let i = c.loop-to.i in
    let many = length-samples (length to) c.args.from.now c.loop-to.invariant.two_each in
    let same = length-put_chunk i to c.encode_lanes.result in
    let lanes = c.encode_lanes.ensures ∙ ap (map g.L.Compander.code) (passed c.lanes_at.result c.lanes_at.ensures.fits ∙ c.lanes_at.ensures.value) in
    record {
      within = omega (arith, same);
      two_each = omega (arith, same, c.loop-to.invariant.two_each);
      written = vector_step g.L.Compander.code from to c.encode_lanes.result i 16 (omega (arith, many)) many c.loop-to.invariant.written lanes;
    }

pub loop-i-preserved : goal.loop-i-preserved
loop-i-preserved g c =
    let from = samples c.args.from.now in
    let to = c.loop-i.to in
    let i = c.loop-i.i in
    let many = length-samples (length to) c.args.from.now c.loop-i.invariant.two_each in
    let same = length-set to i c.encode.result in
    let fits : FitsSigned w16 c.sample_at.result = record { sfits = c.sample_at.type_inv } in
    let item = c.encode.ensures ∙ ap g.L.Compander.code (to_z-of_z w16 c.sample_at.result fits ∙ c.sample_at.ensures) in
    record {
      within = omega (arith, same);
      two_each = omega (arith, same, c.loop-i.invariant.two_each);
      written = item_step g.L.Compander.code from to i (pos 0) c.encode.result (omega (arith, many)) many c.loop-i.invariant.written item;
    }

pub returns : goal.returns
returns g c =
    let many = length-samples (length c.loop-i.to) c.args.from.now c.loop-i.invariant.two_each in
    all_written g.L.Compander.code (samples c.args.from.now) _ c.loop-i.i (omega (arith, many)) many c.loop-i.invariant.written
