use Rattle.work_landing.proofs.Standing.{stands_landed}
use Rattle.work_landing.proofs.laws.law_of_landing.Goals as goal

pub returns : goal.returns
returns c = stands_landed
