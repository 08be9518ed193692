use Rattle.std.proofs.Common.{◌∙◌, ap, option_and_then, slice_get}
use Rattle.graph_core.specs.Entries.{Entries}
use Rattle.graph_core.proofs.Found.{copied_as}
use Rattle.graph_core.proofs.core_graph.Core.find.Goals as goal

pub returns : goal.returns
returns g c =
    let place = c.in_ok-place.place in
    copied_as c.self.inside.components.items c.deref.result.now c.deref.ensures.value place c.get.result c.get.ensures.lookup.3
    ∙ (ap (λ (v : Entries (g.row.C.Denot)). slice_get v.entries place) c.self.view_is ∙ ap (option_and_then (slice_get c.args.self.now.entries)) c.in_ok-place.ensures.place)
