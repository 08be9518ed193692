use Rattle.audio_parts.proofs.AnyParts.{sink_causes}
use Rattle.audio_parts.proofs.any_step.AnyPartPart.take.Goals as goal

pub returns-in-Sink-clause-causes : goal.returns-in-Sink-clause-causes
returns-in-Sink-clause-causes g c =
    rw c.in-Sink.is (sink_causes (λ it. g.S.Source.size it.source) (λ it. g.S.Source.ends it.source) (λ it. it.next) (λ it. g.S.Source.faults it.source) (λ it. g.K.Sink.faults it.sink)
    c.in-Sink.part.file c.take-in-Sink.new.self.file c.take-in-Sink.ensures.causes)
