use Rattle.play_world_laws.proofs.Resets.{reset_output, reset_input, reset_beside_all}
use Rattle.play_world_laws.proofs.links.law_of_resets.Goals as goal

pub returns : goal.returns
returns c = record { output = reset_output; input = reset_input; beside = reset_beside_all }
