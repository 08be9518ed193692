use Rattle.audio_parts.proofs.Mixing.{mixed_padded, mixed_long}
use Rattle.audio_parts.proofs.laws.law_of_padding.Goals as goal

pub returns : goal.returns
returns c = record { same = mixed_padded; long = mixed_long }
