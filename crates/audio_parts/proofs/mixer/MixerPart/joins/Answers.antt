use Rattle.std.proofs.Common.{◌≤◌, ◌∙◌, ◌*◌, length, arith}
use Rattle.audio_parts.proofs.Mixing.{mixed_joined}
use Rattle.omx_types.specs.Formats.{channels_of}
use Rattle.audio_parts.proofs.mixer.MixerPart.joins.Goals as goal

pub returns : goal.returns
returns c = λ frames more first second f s output.
    let mixer = c.args.self.now in
    let some : 1 ≤ length mixer.weights.items = omega (arith, mixer.some, mixer.weights.ok.0) in
    mixed_joined mixer.weights.items (frames * channels_of mixer.output) (more * channels_of mixer.output) first.input second.input some
    (λ k l. f.input k l ∙ grind arith) (λ k l. s.input k l ∙ grind arith)
