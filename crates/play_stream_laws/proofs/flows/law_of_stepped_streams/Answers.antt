use Rattle.play_stream_laws.proofs.PlayStepping.{finish_streams}
use Rattle.play_stream_laws.proofs.flows.law_of_stepped_streams.Goals as goal

pub returns : goal.returns
returns c = finish_streams
