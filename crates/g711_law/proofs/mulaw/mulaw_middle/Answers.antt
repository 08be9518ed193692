use Rattle.std.proofs.Common.{arith}
use Rattle.std.proofs.lemmas.Int.{ints}
use Rattle.g711_law.proofs.MulawLaws.{by_shift, middle_le}
use Rattle.g711_law.proofs.mulaw.mulaw_middle.Goals as goal

pub returns : goal.returns
returns c = omega (arith, ints, by_shift c.args.inverted c.ranges.inverted.fits, middle_le c.args.inverted c.ranges.inverted.fits)
