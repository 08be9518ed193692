use Rattle.g711_law.proofs.SignedLanes.{by_sign_is}
use Rattle.g711_law.proofs.lanes.by_sign.Goals as goal

pub returns : goal.returns
returns c = by_sign_is c.args.negative c.args.other 16 c.args.x c.requires.len c.requires.fits
