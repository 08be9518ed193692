use Rattle.std.proofs.Common.{◌≤◌, subst, sym}
use Rattle.std.specs.Prelude.{unsigned_abs}
use Rattle.pcm_ops.proofs.Scaling.{scaled_size}
use Rattle.pcm_ops.proofs.Bits.{scaled_by_bits}
use Rattle.pcm_ops.proofs.items.scaled.Goals as goal

pub returns-clause-value : goal.returns-clause-value
returns-clause-value c = scaled_by_bits c.args.factor c.args.x c.ranges.factor.fits c.ranges.x

pub returns-clause-small : goal.returns-clause-small
returns-clause-small c = subst (λ z. unsigned_abs z ≤ 524280) (sym (returns-clause-value c)) (scaled_size c.args.factor c.args.x c.ranges.factor.fits c.ranges.x)
