use Rattle.play_stream_laws.proofs.Sinks.{some_sunk, sunk_joined, sunk_whole}
use Rattle.play_stream_laws.proofs.parts.law_of_sunk_text.Goals as goal

pub returns : goal.returns
returns c = record { some = some_sunk; joined = sunk_joined; whole = sunk_whole }
