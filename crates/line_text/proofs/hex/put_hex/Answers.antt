use Rattle.std.proofs.Common.{arith, ◌≡◌, ◌∙◌, sym, ap, ℕ, drop, ◌*◌, ◌+◌}
use Rattle.std.proofs.lemmas.List.{drop-drop}
use Rattle.line_text.proofs.Digits.{take-two, drop-two, hex_of-more}
use Rattle.line_text.proofs.hex.put_hex.Goals as goal

pub loop-i-preserved : goal.loop-i-preserved
loop-i-preserved c =
    let more = hex_of-more c.args.bytes.now c.loop-i.i c.loop-i-test.true in
    let untouched = drop-drop 2 (2 * c.loop-i.i) c.loop-i.buf in
    let was = drop-drop 2 (2 * c.loop-i.i) c.args.buf.now in
    let next : 2 * (c.loop-i.i + 1) ≡ 2 * c.loop-i.i + 2 = omega arith in
    record {
      written = take-two c.loop-i.buf c.loop-i.i c.digit_of.result c.digit_of-in-loop-i.result (omega arith) ∙ cc;
      rest = drop-two c.loop-i.buf c.loop-i.i c.digit_of.result c.digit_of-in-loop-i.result
          ∙ ap (λ (k : ℕ). drop k c.loop-i.buf) next ∙ sym untouched ∙ ap (drop 2) c.loop-i.invariant.rest ∙ was
          ∙ ap (λ (k : ℕ). drop k c.args.buf.now) (sym next);
    }
