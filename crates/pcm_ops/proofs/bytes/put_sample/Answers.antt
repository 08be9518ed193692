use Rattle.std.proofs.Common.{◌≡◌, ◌+◌, ◌*◌, ◌/◌, ◌%◌, suc, List, ℤ, [], ◌∷◌, set, get_or, ap, refl, sym, ◌∙◌, arith, pos, of_z, w16}
use lib.Lanes.{put_chunk}
use Rattle.std.proofs.lemmas.Simd.{get_or-chunk}
use Rattle.std.proofs.lemmas.Int.{to_z-of_z}
use Rattle.pcm_ops.specs.Samples.{bytes, samples}
use Rattle.pcm_ops.proofs.ByteOrder.{high_byte, put_pair, put_back}
use Rattle.pcm_ops.proofs.bytes.put_sample.Goals as goal

pub returns-clause-value : goal.returns-clause-value
unfolding bytes
returns-clause-value c =
    let to = c.args.to.now in
    let j = 2 * c.args.i in
    let low = get_or c.to_le_bytes-pair.result 0 0 in
    let high = get_or c.to_le_bytes-pair.result 1 0 in
    let next : j + 1 ≡ suc j = omega arith in
    ap (λ k. set (set to j low) k high) next
    ∙ put_pair j to low high
    ∙ ap (λ l. put_chunk j to (get_or l 0 0 ∷ get_or l 1 0 ∷ [])) c.to_le_bytes-pair.ensures
    ∙ ap (λ z. put_chunk j to (of_z w16 z % 256 ∷ of_z w16 z / 256 % 256 ∷ [])) (to_z-of_z w16 c.args.x c.ranges.x)
    ∙ ap (λ b. put_chunk j to (of_z w16 c.args.x % 256 ∷ b ∷ [])) (high_byte c.args.x c.ranges.x)

pub returns-clause-back : goal.returns-clause-back
returns-clause-back c =
    let i = c.args.i in
    let written = samples (put_chunk (2 * i) c.args.to.now (bytes (c.args.x ∷ []))) in
    let here : i ≡ i + 0 = omega arith in
    ap (λ l. get_or (samples l) i (pos 0)) (returns-clause-value c)
    ∙ ap (λ k. get_or written k (pos 0)) here
    ∙ sym (get_or-chunk i 1 written 0 (pos 0) (omega arith))
    ∙ ap (λ (l : List ℤ). get_or l 0 (pos 0)) (put_back i 1 c.args.to.now (c.args.x ∷ []) refl (omega (arith, c.requires)) (c.ranges.x, tt))
