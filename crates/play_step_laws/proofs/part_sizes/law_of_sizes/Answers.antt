use Rattle.play_step_laws.proofs.Sizes.{sized}
use Rattle.play_step_laws.proofs.part_sizes.law_of_sizes.Goals as goal

pub returns : goal.returns
returns c = sized
