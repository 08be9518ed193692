use Rattle.part_forms.specs.Effects.{encoded}
use Rattle.audio_parts.proofs.coder.encode.Goals as goal

pub returns-in-ALaw : goal.returns-in-ALaw
unfolding encoded
returns-in-ALaw c = rw c.in-ALaw.is c.alaw_encode_all.ensures

pub returns-in-MuLaw : goal.returns-in-MuLaw
unfolding encoded
returns-in-MuLaw c = rw c.in-MuLaw.is c.mulaw_encode_all.ensures
