use Rattle.play_world_laws.proofs.Overs.{over_can, over_leads}
use Rattle.play_world_laws.proofs.link_calls.law_of_play_hand_overs.Goals as goal

pub returns : goal.returns
returns c = record { done = over_leads; can = over_can }
