use Rattle.std.proofs.Common.{◌≤◌, ◌+◌, ◌^◌, ℕ, map, length, get_or, FitsSigned, ◌+ℤ◌, pos, to_z, of_z, ap, sym, subst, ◌∙◌, arith, w16, w32}
use Rattle.std.proofs.lemmas.List.{get_or_default}
use Rattle.std.proofs.lemmas.Int.{to_z-of_z}
use Rattle.std.specs.Prelude.{unsigned_abs}
use lib.Lanes.{Each2, chunk, zip2}
use Rattle.pcm_ops.specs.Samples.{samples, scaled, mixed}
use Rattle.pcm_ops.proofs.Pieces.{each_in_chunk}
use Rattle.pcm_ops.proofs.Bits.{passed_fit, scaled_passed}
use Rattle.pcm_ops.proofs.ByteOrder.{length-samples, samples_fit}
use Rattle.pcm_ops.proofs.Mixing.{none_mixed, rest_of, more_mixed, one_mixed, whole_mix, sums_ask, sum_bits, mixed_lanes, mixed_item, mixed_size}
use Rattle.pcm_ops.proofs.effects.mix_into.Goals as goal

pub loop-sum-init : goal.loop-sum-init
loop-sum-init c =
    record {
      within = omega arith;
      two_each = c.requires.two_each;
      so_far = none_mixed c.args.weight c.args.sum.now (samples c.args.from.now) (length-samples (length c.args.sum.now) c.args.from.now c.requires.two_each);
    }

pub scaled_lanes-requires-clause-fits : goal.scaled_lanes-requires-clause-fits
scaled_lanes-requires-clause-fits c = passed_fit c.lanes_at.result c.lanes_at.ensures.fits

abbrev asks : ℕ → ℕ → Type 0
asks a b = FitsSigned w32 (to_z w32 a +ℤ to_z w32 b)

pub overflow_add-sum : goal.overflow_add-sum
overflow_add-sum c =
    let old = c.args.sum.now in
    let i = c.loop-sum.i in
    let m = c.loop-sum.invariant.so_far in
    let le : i + 16 ≤ length old = omega (arith, m.same_length.1) in
    let room = each_in_chunk (λ z. unsigned_abs z ≤ 2 ^ 30) (pos 0) old i 16 le (λ k l. c.requires.room k (pos 0) l) in
    subst (λ l. Each2 asks (map (of_z w32) l) (map (of_z w32) c.scaled_lanes.result)) (sym (rest_of c.args.weight i 16 old (samples c.args.from.now) c.loop-sum.sum le m))
    (sums_ask (chunk i 16 old) c.scaled_lanes.result room c.scaled_lanes.ensures.small)

pub loop-sum-preserved : goal.loop-sum-preserved
loop-sum-preserved c =
    let old = c.args.sum.now in
    let from = samples c.args.from.now in
    let i = c.loop-sum.i in
    let m = c.loop-sum.invariant.so_far in
    let le : i + 16 ≤ length old = omega (arith, m.same_length.1) in
    let room = each_in_chunk (λ z. unsigned_abs z ≤ 2 ^ 30) (pos 0) old i 16 le (λ k l. c.requires.room k (pos 0) l) in
    let is = (scaled_passed c.args.weight c.lanes_at.result c.scaled_lanes.result (omega arith) c.lanes_at.ensures.fits c.scaled_lanes.ensures.value).0
    ∙ ap (map (scaled c.args.weight)) c.lanes_at.ensures.value in
    let lanes = ap (λ l. map (to_z w32) (zip2 sum_bits (map (of_z w32) l) (map (of_z w32) c.scaled_lanes.result))) (rest_of c.args.weight i 16 old from c.loop-sum.sum le m)
    ∙ mixed_lanes c.args.weight (chunk i 16 old) (chunk i 16 from) c.scaled_lanes.result room c.scaled_lanes.ensures.small is in
    let more = more_mixed c.args.weight i 16 old from c.loop-sum.sum _ (omega (arith, m.same_length.0)) m lanes in
    record {
      within = omega (arith, more.same_length.1);
      two_each = omega (arith, m.same_length.1, more.same_length.1, c.loop-sum.invariant.two_each);
      so_far = more;
    }

pub loop-i-preserved : goal.loop-i-preserved
loop-i-preserved c =
    let old = c.args.sum.now in
    let from = samples c.args.from.now in
    let i = c.loop-i.i in
    let m = c.loop-i.invariant.so_far in
    let x = c.sample_at.result in
    let before = m.back i (omega arith) in
    let room : unsigned_abs (get_or c.loop-i.sum i (pos 0)) ≤ 2 ^ 30 =
    subst (λ z. unsigned_abs z ≤ 2 ^ 30) (sym before) (c.requires.room i (pos 0) (omega (arith, m.same_length.1))) in
    let fits : FitsSigned w16 x = record { sfits = c.sample_at.type_inv } in
    let is = c.scaled.ensures.value ∙ ap (scaled c.args.weight) (to_z-of_z w16 x fits) in
    let item = mixed_item c.args.weight (get_or c.loop-i.sum i (pos 0)) x c.scaled.result room c.scaled.ensures.small is
    ∙ ap (λ z. mixed c.args.weight z x) before ∙ ap (mixed c.args.weight (get_or old i (pos 0))) c.sample_at.ensures in
    let more = one_mixed c.args.weight i old from c.loop-i.sum _ (omega (arith, m.same_length.0, m.same_length.1)) m item in
    record {
      within = omega (arith, m.same_length.1, more.same_length.1);
      two_each = omega (arith, m.same_length.1, more.same_length.1, c.loop-i.invariant.two_each);
      so_far = more;
    }

pub returns-clause-value : goal.returns-clause-value
returns-clause-value c =
    let m = c.loop-i.invariant.so_far in
    whole_mix c.args.weight c.loop-i.i c.args.sum.now (samples c.args.from.now) c.loop-i.sum (omega (arith, m.same_length.0, m.same_length.1)) m

pub returns-clause-grows : goal.returns-clause-grows
returns-clause-grows c b within k d l =
    let m = c.loop-i.invariant.so_far in
    let from = samples c.args.from.now in
    let here = get_or_default c.loop-i.sum k d (pos 0) l in
    let fits : FitsSigned w16 (get_or from k (pos 0)) = samples_fit c.args.from.now k (omega (arith, m.same_length.1, c.requires.two_each)) c.type_inv.from in
    subst (λ z. unsigned_abs z ≤ b + 524280) (sym (here ∙ m.front k (omega (arith, m.same_length.0, m.same_length.1))))
    (mixed_size c.args.weight (get_or c.args.sum.now k (pos 0)) (get_or from k (pos 0)) b (omega arith) fits (within k (pos 0) (omega (arith, m.same_length.1))))
