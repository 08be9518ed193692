use Rattle.std.proofs.Common.{length}
use Rattle.work_landing.proofs.ending.+all_end.Given as goal

abbrev pub decreases-all_end : goal.decreases-all_end
decreases-all_end l = length l.places.now
