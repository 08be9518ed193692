use Rattle.play_world_laws.proofs.Works.{land_sent, land_ready, land_spent, land_held, land_beside}
use Rattle.play_world_laws.proofs.links.law_of_landed_headers.Goals as goal

pub returns : goal.returns
returns c = record { sent = land_sent; ready = land_ready; spent = land_spent; held = land_held; beside = land_beside }
