use Rattle.part_forms.specs.Effects.{decoded}
use Rattle.audio_parts.proofs.coder.decode.Goals as goal

pub returns-in-ALaw : goal.returns-in-ALaw
unfolding decoded
returns-in-ALaw c = rw c.in-ALaw.is c.alaw_decode_all.ensures

pub returns-in-MuLaw : goal.returns-in-MuLaw
unfolding decoded
returns-in-MuLaw c = rw c.in-MuLaw.is c.mulaw_decode_all.ensures
