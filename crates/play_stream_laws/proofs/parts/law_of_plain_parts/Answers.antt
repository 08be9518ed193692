use Rattle.audio_parts.proofs.Plain.{plain_same}
use Rattle.play_stream_laws.proofs.Plain.{parts}
use Rattle.play_stream_laws.proofs.Padding.{plain_padded}
use Rattle.play_stream_laws.proofs.parts.law_of_plain_parts.Goals as goal

pub returns : goal.returns
returns c = record { parts = parts; same = plain_same; padded = plain_padded }
