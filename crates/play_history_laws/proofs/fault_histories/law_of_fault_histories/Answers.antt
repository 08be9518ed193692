use Rattle.read_world_laws.specs.Inside.{inside}
use Rattle.read_world_laws.specs.Mended.{mend}
use Rattle.play_history_laws.proofs.Accepting.{accepts}
use Rattle.play_history_laws.proofs.FaultAsking.{asked_so}
use Rattle.play_history_laws.proofs.Faulty.{all_faulty, one_faulty, unasked_run}
use Rattle.play_history_laws.proofs.FaultFronts.{all_fronts, all_written, over_so}
use Rattle.play_history_laws.proofs.FaultOpening.{begins_faulty, begins_flow}
use Rattle.play_history_laws.proofs.Whole.{all_whole}
use Rattle.play_history_laws.proofs.fault_histories.law_of_fault_histories.Goals as goal

pub returns : goal.returns
returns c = record {
  begins = begins_faulty;
  flows = begins_flow;
  one = one_faulty;
  comes = all_faulty;
  accepted = λ x k recent p ss w D a r v j s A. accepts x k recent p ss w D a r v j s (asked_so x (inside (mend w.streams w)) ss k a j A);
  stays = unasked_run;
  over = over_so;
  whole = all_whole;
  written = λ x contents k recent p ss w stream D H Q. all_written x contents k recent p ss w stream D H Q;
  fronts = λ x contents k recent p ss w stream D H Q. all_fronts x contents k recent p ss w stream D H Q;
}
