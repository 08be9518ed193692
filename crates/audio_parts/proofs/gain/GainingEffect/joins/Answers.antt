use Rattle.omx_types.specs.Formats.{channels_of}
use Rattle.audio_parts.proofs.Joins.{gained_joined}
use Rattle.audio_parts.proofs.gain.GainingEffect.joins.Goals as goal

pub returns : goal.returns
returns c = λ frames first second whole. gained_joined c.args.self.now.gain frames (channels_of c.args.self.now.input) first second whole
