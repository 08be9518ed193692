use Rattle.held_work_laws.proofs.Listed.{all_claimed, all_finished, all_step}
use Rattle.held_work_laws.proofs.law_of_held_works.Goals as goal

pub returns : goal.returns
returns c = record {
  stays = λ works world act reply after S M h W H. all_step works world act reply after S M h W H;
  claimed = λ works news world handle answer after S H step T. all_claimed works world handle after S H answer news step T;
  finished = λ works place held frames fault world after S at B H. all_finished works place held frames fault world after S at B H;
}
