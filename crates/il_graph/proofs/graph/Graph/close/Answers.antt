use Rattle.std.proofs.Common.{refl}
use Rattle.std.proofs.lemmas.Option.{slice_get-get_or}
use Rattle.audio_parts.specs.Shown.{shown_by}
use Rattle.il_graph.proofs.Fileless.{fileless}
use Rattle.il_graph.proofs.graph.Graph.close.Goals as goal

pub end_parts-requires : goal.end_parts-requires
end_parts-requires g c k d b =
    fileless g.C.Client.progress (shown_by g.S.Source.told g.K.Sink.told g.K.Sink.name) _ c.self.inside.parts.items refl c.self.invariant.1 (rw (← c.self.view_is) at c.requires) k _
    (slice_get-get_or c.self.inside.parts.items k d b)
