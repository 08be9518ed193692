use Rattle.play_world_laws.proofs.Unused.{from_input, from_output, input_beside, output_beside}
use Rattle.play_world_laws.proofs.links.law_of_unused.Goals as goal

pub returns : goal.returns
returns c = record { input = from_input; output = from_output; input_beside = input_beside; output_beside = output_beside }
