use Rattle.play_turn_laws.proofs.Casting.{plan_begins}
use Rattle.play_turn_laws.proofs.conductors.law_of_play_castings.Goals as goal

pub returns : goal.returns
returns c = record { begins = plan_begins }
