use Rattle.omx_types.specs.Formats.{channels_of}
use Rattle.audio_parts.proofs.Joins.{encoded_joined}
use Rattle.audio_parts.proofs.coder.EncodingEffect.joins.Goals as goal

pub returns : goal.returns
returns c = λ frames first second whole. encoded_joined c.args.self.now.companding frames (channels_of c.args.self.now.input) first second whole
