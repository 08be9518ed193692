use Rattle.std.proofs.Common.{◌≤◌, ◌*◌, arith, subst, sym}
use Rattle.audio_parts.proofs.Formats.{few_bytes}
use Rattle.audio_parts.proofs.Readiness.{source_agrees}
use Rattle.audio_parts.proofs.wav_source.WavSourcePart.begin.Goals as goal

pub overflow_mul-self : goal.overflow_mul-self
overflow_mul-self g c =
    let few : c.args.frames * c.frame_bytes.result ≤ 8192 =
    subst (λ n. c.args.frames * n ≤ 8192) (sym c.frame_bytes.ensures) (few_bytes c.args.self.now.format c.args.frames c.args.self.now.lawful c.requires.few) in
    omega (arith, few)

pub invariant_of-self-clause-small : goal.invariant_of-self-clause-small
invariant_of-self-clause-small g c =
    subst (λ n. c.args.frames * n ≤ 8192) (sym c.frame_bytes.ensures) (few_bytes c.args.self.now.format c.args.frames c.args.self.now.lawful c.requires.few)

pub invariant_of-self-clause-agrees : goal.invariant_of-self-clause-agrees
invariant_of-self-clause-agrees g c = λ due.
    let part = c.args.self.now in
    source_agrees part.late part.format part.file part.failed c.requires.fits
