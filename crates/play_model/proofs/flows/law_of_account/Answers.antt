use Rattle.play_model.proofs.Keeps.{move_keeps}
use Rattle.play_model.proofs.Full.{move_full, opening_sound}
use Rattle.play_model.proofs.flows.law_of_account.Goals as goal

pub returns : goal.returns
returns c = record {
  opening = opening_sound;
  kept = move_keeps;
  full = λ net s m W F C. move_full net s m F C;
}
