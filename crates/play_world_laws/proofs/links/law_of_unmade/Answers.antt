use Rattle.play_world_laws.proofs.Made.{unmade_ready, unmade_sent, unmade_held, unmade_spent, todo_beside, done_beside}
use Rattle.play_world_laws.proofs.links.law_of_unmade.Goals as goal

pub returns : goal.returns
returns c = record { ready = unmade_ready; sent = unmade_sent; held = unmade_held; spent = unmade_spent; todo_beside = todo_beside; done_beside = done_beside }
