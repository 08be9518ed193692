use Rattle.std.proofs.Common.{length}
use Rattle.work_landing.proofs.step.+set_ends.Given as goal

abbrev pub decreases-set_ends : goal.decreases-set_ends
decreases-set_ends g l = length l.places.now
