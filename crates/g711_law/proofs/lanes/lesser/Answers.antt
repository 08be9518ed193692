use Rattle.g711_law.proofs.CurveLanes.{lesser_is}
use Rattle.g711_law.proofs.lanes.lesser.Goals as goal

pub returns : goal.returns
returns c = lesser_is c.args.a c.args.b
