use Rattle.play_history_laws.proofs.Ends.{fronts_so, over_at_rest, whole_so}
use Rattle.play_history_laws.proofs.Taken.{all_taken, begins_taken, one_taken}
use Rattle.play_history_laws.proofs.play_histories.law_of_play_histories.Goals as goal

pub returns : goal.returns
returns c = record { begins = begins_taken; one = one_taken; comes = all_taken; over = over_at_rest; whole = whole_so; fronts = fronts_so }
