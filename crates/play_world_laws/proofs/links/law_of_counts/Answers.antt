use Rattle.play_world_laws.proofs.Counts.{made_for_link}
use Rattle.play_world_laws.proofs.Away.{away_in_lists}
use Rattle.play_world_laws.proofs.links.law_of_counts.Goals as goal

pub returns : goal.returns
returns c = record { made = made_for_link; away = away_in_lists }
