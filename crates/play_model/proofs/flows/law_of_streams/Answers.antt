use Rattle.play_model.proofs.Streams.{move_streams}
use Rattle.play_model.proofs.Plain.{opening_streams, play_is_plain}
use Rattle.play_model.proofs.Fronts.{fronts}
use Rattle.play_model.proofs.flows.law_of_streams.Goals as goal

pub returns : goal.returns
returns c = record { opening = opening_streams; kept = move_streams; fronts = fronts; ended = play_is_plain }
