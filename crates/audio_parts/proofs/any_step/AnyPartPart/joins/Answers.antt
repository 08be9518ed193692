use Rattle.audio_parts.proofs.any_step.AnyPartPart.joins.Goals as goal

pub returns-in-Decoder : goal.returns-in-Decoder
returns-in-Decoder g c = rw c.in-Decoder.is c.joins-in-Decoder.ensures

pub returns-in-Encoder : goal.returns-in-Encoder
returns-in-Encoder g c = rw c.in-Encoder.is c.joins-in-Encoder.ensures

pub returns-in-Gain : goal.returns-in-Gain
returns-in-Gain g c = rw c.in-Gain.is c.joins-in-Gain.ensures

pub returns-in-Mixer : goal.returns-in-Mixer
returns-in-Mixer g c = rw c.in-Mixer.is c.joins-in-Mixer.ensures
