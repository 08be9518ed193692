use Rattle.std.proofs.Common.{◌-◌, arith}
use Rattle.clock_core.proofs.PaceLaws.{media-split}
use Rattle.clock_core.proofs.pace.media_at.Goals as goal

pub returns : goal.returns
returns c = rw (c.from-scale.ensures) (omega (arith, media-split (c.args.wall - c.args.pace.since) c.args.pace.scale))
