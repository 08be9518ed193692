use Rattle.std.proofs.Common.{◌≡◌, Some, sym, ◌∙◌}
use Rattle.port_stock.specs.Kept.{stocked}
use Rattle.graph_core.specs.Entries.{Entries}
use Rattle.graph_core.proofs.Replacing.{there}
use Rattle.graph_core.proofs.Found.{bounds_of, found_of}
use Rattle.graph_core.proofs.Gathered.{gathered}
use Rattle.graph_core.proofs.core_graph.Core.free_buffer_refusal.Goals as goal

pub index-component-requires : goal.index-component-requires
index-component-requires g c =
    let i = c.self.inside in
    bounds_of g.C.Client.progress (gathered i.components.items i.stock i.book i.registry.given) _ c.self.view_is c.args.place _ i.components.ok.0 c.requires.place

pub returns : goal.returns
returns g c =
    let i = c.self.inside in
    let p = g.C.Client.progress in
    let G : Entries (g.row.C.Denot) = gathered i.components.items i.stock i.book i.registry.given in
    let e = c.index-component.result.now in
    let at = found_of p G _ c.self.view_is c.args.place c.requires.place e c.index-component.ensures in
    let shown : (stocked i.stock).headers.header c.args.number ≡ Some c.in-Some.state = sym c.state.ensures ∙ c.in-Some.is in
    rw (← c.self.view_is, there p G c.args.place e at, shown) c.free_buffer_refusal.ensures
