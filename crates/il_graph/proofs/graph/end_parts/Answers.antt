use Rattle.std.proofs.Common.{◌≡◌, Option, Some, None, option_and_then, sym, ◌∙◌}
use Rattle.std.proofs.lemmas.List.Elements.{All-pop}
use Rattle.audio_parts.specs.AnyParts.{file_of as part_file}
use Rattle.audio_parts.specs.declared.any_part.AnyPart.{AnyPart}
use Rattle.il_graph.proofs.graph.end_parts.Goals as goal

pub loop-part-preserved-in_default-part : goal.loop-part-preserved-in_default-part
loop-part-preserved-in_default-part g c =
    (All-pop (λ (p : Option (AnyPart (g.row.S.Denot) (g.row.K.Denot) g.S.Source g.K.Sink)). option_and_then (λ part. part_file part) p ≡ None) c.loop-part.parts.items c.pop.new.self.items c.pop.result c.pop.ensures.items c.loop-part.invariant).0

pub loop-part-preserved : goal.loop-part-preserved
loop-part-preserved g c =
    (All-pop (λ (p : Option (AnyPart (g.row.S.Denot) (g.row.K.Denot) g.S.Source g.K.Sink)). option_and_then (λ part. part_file part) p ≡ None) c.loop-part.parts.items c.pop.new.self.items c.pop.result c.pop.ensures.items c.loop-part.invariant).0

pub unreachable-requires : goal.unreachable-requires
unreachable-requires g c =
    let a = (All-pop (λ (p : Option (AnyPart (g.row.S.Denot) (g.row.K.Denot) g.S.Source g.K.Sink)). option_and_then (λ part. part_file part) p ≡ None) c.loop-part.parts.items c.pop.new.self.items c.pop.result c.pop.ensures.items c.loop-part.invariant).1 in
    let b : option_and_then (λ part. part_file part) c.in-Some.part ≡ None = rw c.in-Some.is at a in
    let d : part_file c.in-Some-part.part ≡ None = rw c.in-Some-part.is at b in
    let e : Some c.in-Some-into_file.field-0 ≡ None = sym c.in-Some-into_file.is ∙ ((rw c.into_part.ensures at c.into_file.ensures) ∙ d) in
    absurd cc
