use Rattle.std.proofs.Common.{◌-◌, ap, ◌∙◌, arith}
use Rattle.std.proofs.lemmas.Int.{ints}
use Rattle.g711_law.specs.Mulaw.{mulaw_code, mulaw_value}
use Rattle.g711_law.proofs.MulawLaws.{decode_encodes, minus_zero, value_low, value_high, middle_le}
use Rattle.g711_law.proofs.mulaw.mulaw_decode.Goals as goal

pub returns-then-inverted-lt128-clause-value : goal.returns-then-inverted-lt128-clause-value
returns-then-inverted-lt128-clause-value c =
    let most = middle_le (255 - c.args.c) (omega arith) in
    omega (arith, ints, value_low c.args.c c.ranges.c.fits c.if-inverted-lt128.true, c.mulaw_middle-middle.ensures)

pub returns-then-inverted-lt128-clause-again : goal.returns-then-inverted-lt128-clause-again
returns-then-inverted-lt128-clause-again c other = ap mulaw_code (returns-then-inverted-lt128-clause-value c) ∙ decode_encodes c.args.c c.ranges.c.fits other

pub returns-else-inverted-lt128-clause-value : goal.returns-else-inverted-lt128-clause-value
returns-else-inverted-lt128-clause-value c =
    let most = middle_le (255 - c.args.c) (omega arith) in
    omega (arith, ints, value_high c.args.c c.ranges.c.fits c.if-inverted-lt128.false, c.mulaw_middle-middle.ensures)

pub returns-else-inverted-lt128-clause-again : goal.returns-else-inverted-lt128-clause-again
returns-else-inverted-lt128-clause-again c other = ap mulaw_code (returns-else-inverted-lt128-clause-value c) ∙ decode_encodes c.args.c c.ranges.c.fits other

pub returns-else-inverted-lt128-clause-minus_zero : goal.returns-else-inverted-lt128-clause-minus_zero
returns-else-inverted-lt128-clause-minus_zero c e = ap mulaw_code (returns-else-inverted-lt128-clause-value c ∙ ap mulaw_value e) ∙ minus_zero
