use Rattle.std.proofs.Common.{◌≤◌, ap, sym, ◌∙◌, length, map, List, ℤ, take, arith}
use Rattle.pcm_ops.specs.Samples.{bytes, clamped}
use Rattle.audio_parts.proofs.Mixing.{mixed_of}
use Rattle.audio_parts.proofs.mixer.MixerPart.put.Goals as goal

pub returns-clause-given : goal.returns-clause-given
returns-clause-given c = λ incoming h.
    let mixer = c.args.self.now in
    let some : 1 ≤ length mixer.weights.items = omega (arith, mixer.some, mixer.weights.ok.0) in
    c.put_front.ensures
    ∙ ap (λ (s : List ℤ). bytes (map clamped s)) (ap (take mixer.count) c.deref.ensures.value ∙ h.summed)
    ∙ sym (mixed_of mixer.weights.items mixer.count incoming.input some h.whole)
