use Rattle.std.proofs.Common.{length}
use Rattle.work_landing.proofs.returning.+bring_places.Given as goal

abbrev pub decreases-bring_places : goal.decreases-bring_places
decreases-bring_places g l = length l.places.now
