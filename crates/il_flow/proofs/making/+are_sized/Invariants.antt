use Rattle.std.proofs.Common.{length}
use Rattle.il_flow.proofs.making.+are_sized.Given as goal

abbrev pub decreases-are_sized : goal.decreases-are_sized
decreases-are_sized l = length l.places.now
