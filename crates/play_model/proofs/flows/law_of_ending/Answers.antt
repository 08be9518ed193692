use Rattle.play_model.proofs.Measure.{move_less, moves_end}
use Rattle.play_model.proofs.flows.law_of_ending.Goals as goal

pub returns : goal.returns
returns c = record { less = move_less; bound = moves_end }
