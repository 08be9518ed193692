use Rattle.audio_parts.proofs.AnyParts.{source_causes, sink_causes}
use Rattle.audio_parts.proofs.any_step.AnyPartPart.begin.Goals as goal

pub returns-in-Source-clause-causes : goal.returns-in-Source-clause-causes
returns-in-Source-clause-causes g c =
    rw c.in-Source.is (source_causes (λ it. g.S.Source.size it.source) (λ it. g.S.Source.ends it.source) (λ it. it.next) (λ it. g.S.Source.faults it.source) (λ it. g.K.Sink.faults it.sink)
    c.in-Source.part.file c.begin.new.self.file c.begin.ensures.causes)

pub returns-in-Sink-clause-causes : goal.returns-in-Sink-clause-causes
returns-in-Sink-clause-causes g c =
    rw c.in-Sink.is (sink_causes (λ it. g.S.Source.size it.source) (λ it. g.S.Source.ends it.source) (λ it. it.next) (λ it. g.S.Source.faults it.source) (λ it. g.K.Sink.faults it.sink)
    c.in-Sink.part.file c.begin-in-Sink.new.self.file c.begin-in-Sink.ensures.causes)
