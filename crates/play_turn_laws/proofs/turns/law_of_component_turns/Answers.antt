use Rattle.play_turn_laws.proofs.Coming.{finishes_come, none_claimed, none_told, runs_come, tells_come}
use Rattle.play_turn_laws.proofs.turns.law_of_component_turns.Goals as goal

pub returns : goal.returns
returns c = record { runs = runs_come; tells = tells_come; untold = none_told; claims = none_claimed; finishes = finishes_come }
