use Rattle.play_world_laws.proofs.Backs.{back_can, back_leads}
use Rattle.play_world_laws.proofs.Unuseds.{unused_can, unused_leads}
use Rattle.play_world_laws.proofs.link_calls.law_of_play_hand_backs.Goals as goal

pub returns : goal.returns
returns c = record { done = back_leads; can = back_can; unused = unused_leads; unused_can = unused_can }
