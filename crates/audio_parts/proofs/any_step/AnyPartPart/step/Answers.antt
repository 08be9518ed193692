use Rattle.audio_parts.proofs.AnyParts.{source_causes, sink_causes, on_none_then}
use Rattle.audio_parts.proofs.any_step.AnyPartPart.step.Goals as goal

pub returns-in-Source-clause-read : goal.returns-in-Source-clause-read
returns-in-Source-clause-read g c =
    rw c.in-Source.is c.step.ensures.read

pub returns-in-Source-clause-outputs : goal.returns-in-Source-clause-outputs
returns-in-Source-clause-outputs g c =
    rw c.in-Source.is c.step.ensures.outputs

pub returns-in-Sink-clause-front : goal.returns-in-Sink-clause-front
returns-in-Sink-clause-front g c =
    rw c.in-Sink.is c.step-in-Sink.ensures.front

pub returns-in-Source-clause-causes : goal.returns-in-Source-clause-causes
returns-in-Source-clause-causes g c =
    rw c.in-Source.is (on_none_then c.step.result (source_causes (λ it. g.S.Source.size it.source) (λ it. g.S.Source.ends it.source) (λ it. it.next) (λ it. g.S.Source.faults it.source) (λ it. g.K.Sink.faults it.sink)
    c.in-Source.part.file c.step.new.self.file) c.step.ensures.causes)

pub returns-in-Sink-clause-causes : goal.returns-in-Sink-clause-causes
returns-in-Sink-clause-causes g c =
    rw c.in-Sink.is (on_none_then c.step-in-Sink.result (sink_causes (λ it. g.S.Source.size it.source) (λ it. g.S.Source.ends it.source) (λ it. it.next) (λ it. g.S.Source.faults it.source) (λ it. g.K.Sink.faults it.sink)
    c.in-Sink.part.file c.step-in-Sink.new.self.file) c.step-in-Sink.ensures.causes)
