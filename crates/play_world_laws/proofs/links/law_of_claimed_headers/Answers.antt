use Rattle.play_world_laws.proofs.Works.{claim_output, claim_input, claim_beside}
use Rattle.play_world_laws.proofs.links.law_of_claimed_headers.Goals as goal

pub returns : goal.returns
returns c = record { output = claim_output; input = claim_input; beside = claim_beside }
