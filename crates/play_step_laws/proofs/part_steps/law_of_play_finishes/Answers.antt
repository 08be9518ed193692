use Rattle.play_step_laws.proofs.Finishing.{finish_can, finish_leads}
use Rattle.play_step_laws.proofs.part_steps.law_of_play_finishes.Goals as goal

pub returns : goal.returns
returns c = record { done = finish_leads; can = finish_can }
