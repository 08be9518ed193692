use Rattle.play_model.proofs.Ends.{play_ends, a_play_begins}
use Rattle.play_model.proofs.plays.law_of_ends.Goals as goal

pub returns : goal.returns
returns c = record { some = a_play_begins; ends = play_ends }
