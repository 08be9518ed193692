use Rattle.std.proofs.Common.{◌≤◌, arith}
use Rattle.audio_parts.proofs.Reasons.{read_causes}
use Rattle.audio_parts.proofs.wav_source.WavSourcePart.step.Goals as goal

pub returns-in-Ok-clause-causes : goal.returns-in-Ok-clause-causes
returns-in-Ok-clause-causes g c = λ after fault.
    let further : c.in-Some.file.next ≤ c.give.new.self.next = omega (arith, c.in-Ok.ensures.next) in
    rw c.in-Some.is (read_causes (λ it. g.S.Source.size it.source) (λ it. g.S.Source.ends it.source) (λ it. it.next) (λ it. g.S.Source.faults it.source) c.in-Some.file c.give.new.self after.file fault
    c.in-Ok.ensures.keeps_source.size c.in-Ok.ensures.keeps_source.ends further c.in-Ok.ensures.stops c.in-Ok.ensures.keeps_source.later)
