use Rattle.std.proofs.Common.{length}
use Rattle.il_flow.proofs.parts.+take_headers.Given as goal

abbrev pub decreases-take_headers : goal.decreases-take_headers
decreases-take_headers g l = length l.places.now
