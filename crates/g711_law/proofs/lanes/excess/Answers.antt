use Rattle.std.proofs.Common.{ap, ◌∙◌, replicate}
use lib.Lanes.{zip2}
use Rattle.g711_law.proofs.CurveLanes.{excess_is, less}
use Rattle.g711_law.proofs.lanes.excess.Goals as goal

pub returns : goal.returns
returns c =
    ap (λ m. zip2 less m (replicate 16 c.args.least)) c.greater.ensures ∙ excess_is 16 c.args.least c.args.w c.ranges.least.fits c.requires.len c.requires.fits
