use Rattle.play_step_laws.proofs.Claiming.{claim_accepted, claim_busy, claim_steps_can, claim_taken}
use Rattle.play_step_laws.proofs.part_steps.law_of_play_claims.Goals as goal

pub returns : goal.returns
returns c = record { taken = claim_taken; done = claim_accepted; can = claim_steps_can; busy = claim_busy }
