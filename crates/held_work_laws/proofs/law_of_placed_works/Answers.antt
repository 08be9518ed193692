use Rattle.held_work_laws.proofs.Placed.{placed_claimed, placed_finished, placed_step}
use Rattle.held_work_laws.proofs.law_of_placed_works.Goals as goal

pub returns : goal.returns
returns c = record {
  stays = λ works world act reply after S M h W H. placed_step works world act reply after S M h W H;
  claimed = λ works news world handle answer after S there H step T. placed_claimed works world handle after S there H answer news step T;
  finished = λ works number held frames fault world after S at B H. placed_finished works number held frames fault world after S at B H;
}
