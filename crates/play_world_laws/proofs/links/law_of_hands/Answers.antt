use Rattle.play_world_laws.proofs.Hands.{hand_on, hand_back, on_beside, back_beside}
use Rattle.play_world_laws.proofs.links.law_of_hands.Goals as goal

pub returns : goal.returns
returns c = record { on = hand_on; back = hand_back; on_beside = on_beside; back_beside = back_beside }
