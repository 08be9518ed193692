use Rattle.play_world_laws.proofs.Begins.{begins}
use Rattle.play_world_laws.proofs.worlds.law_of_play_sends.Goals as goal

pub returns : goal.returns
returns c = record { begun = begins }
