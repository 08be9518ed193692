use Rattle.play_model.proofs.Less.{act_less, act_counts, acts_count}
use Rattle.play_model.proofs.plays.law_of_return.Goals as goal

pub returns : goal.returns
returns c = record { less = act_less; number = act_counts; bound = acts_count }
