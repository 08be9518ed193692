use Rattle.audio_parts.proofs.AnyParts.{source_causes}
use Rattle.audio_parts.proofs.any_step.AnyPartPart.put.Goals as goal

pub returns-in-Source-clause-given : goal.returns-in-Source-clause-given
returns-in-Source-clause-given g c =
    rw c.in-Source.is c.put.ensures.given

pub returns-in-Source-clause-carried : goal.returns-in-Source-clause-carried
returns-in-Source-clause-carried g c =
    rw c.in-Source.is c.put.ensures.carried

pub returns-in-Source-clause-outputs : goal.returns-in-Source-clause-outputs
returns-in-Source-clause-outputs g c =
    rw c.in-Source.is c.put.ensures.outputs

pub returns-in-Source-clause-causes : goal.returns-in-Source-clause-causes
returns-in-Source-clause-causes g c =
    rw c.in-Source.is (source_causes (λ it. g.S.Source.size it.source) (λ it. g.S.Source.ends it.source) (λ it. it.next) (λ it. g.S.Source.faults it.source) (λ it. g.K.Sink.faults it.sink)
    c.in-Source.part.file c.put.new.self.file c.put.ensures.causes)
