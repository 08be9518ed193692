use Rattle.play_turn_laws.proofs.Turning.{change_goes}
use Rattle.play_turn_laws.proofs.turns.law_of_conducted_turns.Goals as goal

pub returns : goal.returns
returns c = record { goes = change_goes }
