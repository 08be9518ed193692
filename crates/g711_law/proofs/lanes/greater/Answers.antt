use Rattle.g711_law.proofs.CurveLanes.{greater_is}
use Rattle.g711_law.proofs.lanes.greater.Goals as goal

pub returns : goal.returns
returns c = greater_is c.args.a c.args.b
