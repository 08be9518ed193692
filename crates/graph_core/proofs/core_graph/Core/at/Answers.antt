use Rattle.std.proofs.Common.{slice_get, ◌∙◌, ap}
use Rattle.graph_core.specs.Entries.{Entries}
use Rattle.graph_core.proofs.Found.{copied_as}
use Rattle.graph_core.proofs.core_graph.Core.at.Goals as goal

pub returns : goal.returns
returns g c =
    copied_as c.self.inside.components.items c.deref.result.now c.deref.ensures.value c.args.place c.get.result c.get.ensures.lookup.3 ∙ ap (λ (v : Entries (g.row.C.Denot)). slice_get v.entries c.args.place) c.self.view_is
