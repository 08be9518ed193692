use Rattle.std.proofs.Common.{length}
use Rattle.il_flow.proofs.parts.+put_headers.Given as goal

abbrev pub decreases-put_headers : goal.decreases-put_headers
decreases-put_headers g l = length l.places.now
