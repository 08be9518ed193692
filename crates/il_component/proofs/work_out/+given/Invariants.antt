use Rattle.std.proofs.Common.{length}
use Rattle.il_component.proofs.work_out.+given.Given as goal

abbrev pub decreases-given : goal.decreases-given
decreases-given l = length l.numbers.now
