use Rattle.part_forms.specs.Effects.{companding_of}
use Rattle.audio_parts.proofs.Joins.{decoded_joined}
use Rattle.audio_parts.proofs.coder.DecodingEffect.joins.Goals as goal

pub returns : goal.returns
returns c = λ frames first second whole. decoded_joined (companding_of c.args.self.now.input) first second
