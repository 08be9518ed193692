use Rattle.std.proofs.Common.{◌∙◌, ap, sym, arith, ◌*◌, ◌+◌, ◌<◌, ℕ, List, [], ◌∷◌, get_or, length}
use Rattle.load_gen.specs.Samples.{next}
use Rattle.load_gen.proofs.Generated.{filled-more, after_more}
use Rattle.load_gen.proofs.samples.fill.Goals as goal

pub loop-i-preserved : goal.loop-i-preserved
loop-i-preserved c =
    let i = c.loop-i.i in
    let moved = c.number_after-number.ensures ∙ ap next c.loop-i.invariant.number in
    let room : 2 * i + 1 < length c.loop-i.buf = omega arith in
    record {
      filled = filled-more c.loop-i.buf i c.args.x c.number_after-number.result _ _ room c.loop-i.invariant.filled moved
          (ap (λ (bytes : List ℕ). get_or bytes 0 0 ∷ get_or bytes 1 0 ∷ []) c.to_le_bytes-sample.ensures);
      number = moved ∙ sym (after_more i c.args.x);
    }
