use Rattle.play_world_laws.proofs.Made.{made_ready, made_spent, made_beside}
use Rattle.play_world_laws.proofs.links.law_of_made.Goals as goal

pub returns : goal.returns
returns c = record { ready = made_ready; spent = made_spent; beside = made_beside }
