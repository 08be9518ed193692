use Rattle.graph_core.specs.Entries.{Entries}
use Rattle.graph_core.proofs.Replacing.{there}
use Rattle.graph_core.proofs.Found.{bounds_of, found_of}
use Rattle.graph_core.proofs.Gathered.{gathered}
use Rattle.graph_core.proofs.core_graph.Core.attach_refusal.Goals as goal

pub index-component-requires : goal.index-component-requires
index-component-requires g c =
    let i = c.self.inside in
    bounds_of g.C.Client.progress (gathered i.components.items i.stock i.book i.registry.given) _ c.self.view_is c.args.place _ i.components.ok.0 c.requires

pub returns : goal.returns
returns g c =
    let i = c.self.inside in
    let p = g.C.Client.progress in
    let e = c.index-component.result.now in
    let G : Entries (g.row.C.Denot) = gathered i.components.items i.stock i.book i.registry.given in
    let at = found_of p G _ c.self.view_is c.args.place c.requires e c.index-component.ensures in
    λ known. rw (← c.self.view_is, there p G c.args.place e at) (c.attach_refusal.ensures known)
