use Rattle.std.proofs.Common.{ap, ◌∙◌, arith}
use Rattle.std.proofs.lemmas.Int.{ints}
use Rattle.g711_law.specs.Alaw.{alaw_code}
use Rattle.g711_law.proofs.AlawLaws.{decode_encodes, value_low, value_high, middle_range}
use Rattle.std.proofs.lemmas.Nat.{xor_of_8}
use lib.Bits.{bit_xor}
use Rattle.g711_law.proofs.alaw.alaw_decode.Goals as goal

pub returns-then-inverted-lt128-clause-value : goal.returns-then-inverted-lt128-clause-value
returns-then-inverted-lt128-clause-value c =
    let range = middle_range (bit_xor c.args.c 0x55) (xor_of_8 c.args.c 0x55 c.ranges.c.fits (omega arith)) in
    omega (arith, ints, value_low c.args.c c.if-inverted-lt128.true, c.alaw_middle-middle.ensures)

pub returns-then-inverted-lt128-clause-again : goal.returns-then-inverted-lt128-clause-again
returns-then-inverted-lt128-clause-again c = ap alaw_code (returns-then-inverted-lt128-clause-value c) ∙ decode_encodes c.args.c c.ranges.c.fits

pub returns-else-inverted-lt128-clause-value : goal.returns-else-inverted-lt128-clause-value
returns-else-inverted-lt128-clause-value c =
    let range = middle_range (bit_xor c.args.c 0x55) (xor_of_8 c.args.c 0x55 c.ranges.c.fits (omega arith)) in
    omega (arith, ints, value_high c.args.c c.ranges.c.fits c.if-inverted-lt128.false, c.alaw_middle-middle.ensures)

pub returns-else-inverted-lt128-clause-again : goal.returns-else-inverted-lt128-clause-again
returns-else-inverted-lt128-clause-again c = ap alaw_code (returns-else-inverted-lt128-clause-value c) ∙ decode_encodes c.args.c c.ranges.c.fits
