use Rattle.play_turn_laws.proofs.Turning.{turn_goes}
use Rattle.play_turn_laws.proofs.turns.law_of_play_turns.Goals as goal

pub returns : goal.returns
returns c = record { goes = turn_goes }
