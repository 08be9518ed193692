use Rattle.graph_core.specs.Ending.{IsAllIn}
use Rattle.graph_core.specs.Entries.{Entries, look_of}
use Rattle.graph_core.proofs.Unmaking.{all_in_clients, all_in_inside, all_outside}
use Rattle.graph_core.proofs.Gathered.{gathered}
use Rattle.graph_core.proofs.core_graph.Core.close.Goals as goal

pub end_all-requires-clause-held : goal.end_all-requires-clause-held
end_all-requires-clause-held g c =
    let i = c.self.inside in
    let G : Entries (g.row.C.Denot) = gathered i.components.items i.stock i.book i.registry.given in
    let asked : IsAllIn (look_of G) = rw (← c.self.view_is) at c.requires in
    all_outside g.C.Client.progress G c.self.invariant.0.worlds (all_in_inside g.C.Client.progress G c.self.invariant.0.worlds asked)

pub end_all-requires-clause-clients : goal.end_all-requires-clause-clients
end_all-requires-clause-clients g c =
    let i = c.self.inside in
    let G : Entries (g.row.C.Denot) = gathered i.components.items i.stock i.book i.registry.given in
    let asked : IsAllIn (look_of G) = rw (← c.self.view_is) at c.requires in
    all_in_clients g.C.Client.progress G c.self.invariant.0.worlds asked
