use Rattle.std.proofs.Common.{length}
use Rattle.il_flow.proofs.frames.+are_last.Given as goal

abbrev pub decreases-are_last : goal.decreases-are_last
decreases-are_last l = length l.places.now
