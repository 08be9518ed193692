use Rattle.std.proofs.Common.{◌≡◌, true, is_none, refl, ◌∙◌, ap}
use Rattle.il_component.specs.Entries.{Entry, component_of}
use Rattle.graph_core.specs.Entries.{Entries}
use Rattle.graph_core.proofs.Clients.{others_set, client_set, in_now}
use Rattle.graph_core.proofs.Renumbered.{own_place}
use Rattle.graph_core.proofs.Replacing.{there}
use Rattle.graph_core.proofs.Stepping.{graph_with}
use Rattle.graph_core.proofs.Returning.{back_worlds, back_returns}
use Rattle.graph_core.proofs.Marking.{marked_set}
use Rattle.graph_core.proofs.Calming.{calm_same}
use Rattle.graph_core.proofs.Found.{bounds, found}
use Rattle.graph_core.proofs.Gathered.{gathered}
use Rattle.graph_core.proofs.BookKept.{kept_rows}
use Rattle.graph_core.specs.Booked.{row_for}
use Rattle.graph_core.proofs.core_graph.Core.put_client.Goals as goal

pub index_mut-component-requires : goal.index_mut-component-requires
index_mut-component-requires g c =
    let i = c.self.inside in
    bounds g.C.Client.progress (gathered i.components.items i.stock i.book i.registry.given) _ c.self.view_is c.args.place _ c.requires.out _ i.components.ok.0

pub put_client-requires : goal.put_client-requires
put_client-requires g c =
    let i = c.self.inside in
    let e = c.index_mut-component.result.now in
    let G : Entries (g.row.C.Denot) = gathered i.components.items i.stock i.book i.registry.given in
    let asked = rw (← c.self.view_is) at c.requires.out in
    let at = found g.C.Client.progress G _ c.self.view_is c.args.place _ c.requires.out e c.index_mut-component.ensures.value in
    rw (there g.C.Client.progress G c.args.place e at) at asked

pub invariant_of-self : goal.invariant_of-self
invariant_of-self g c =
    let i = c.self.inside in
    let e = c.index_mut-component.result.now in
    let G : Entries (g.row.C.Denot) = gathered i.components.items i.stock i.book i.registry.given in
    let asked = rw (← c.self.view_is) at c.requires.out in
    let at = found g.C.Client.progress G _ c.self.view_is c.args.place _ c.requires.out e c.index_mut-component.ensures.value in
    let d = c.put_client.new.self in
    let out : is_none e.queues.client ≡ true = rw (there g.C.Client.progress G c.args.place e at) at asked in (
      graph_with g.C.Client.progress i.components.items i.registry i.stock i.stock i.book.units i.book.numbered i.components.cap c.args.place e d c.self.invariant.0 at
          (ap (λ (x : Entry (g.row.C.Denot)). x.handle) c.put_client.ensures) (ap (λ (x : Entry (g.row.C.Denot)). x.ports) c.put_client.ensures) (ap (λ (x : Entry (g.row.C.Denot)). x.pending) c.put_client.ensures) refl
          (back_worlds g.C.Client.progress G c.args.place e c.args.client c.self.invariant.0.worlds at d c.put_client.ensures c.requires.told out),
      marked_set i.components.items i.marked c.args.place e d c.self.invariant.1 at (calm_same (component_of e) (component_of d) (ap (λ (x : Entry (g.row.C.Denot)). x.ports) c.put_client.ensures) (ap (λ (x : Entry (g.row.C.Denot)). x.pending) c.put_client.ensures)),
      kept_rows i.book i.components.items c.args.place e d c.self.invariant.2 at (ap (λ (x : Entry (g.row.C.Denot)). row_for (component_of x)) c.put_client.ensures),
    )

pub returns-clause-change : goal.returns-clause-change
returns-clause-change g c =
    let i = c.self.inside in
    let e = c.index_mut-component.result.now in
    let G : Entries (g.row.C.Denot) = gathered i.components.items i.stock i.book i.registry.given in
    let at = found g.C.Client.progress G _ c.self.view_is c.args.place _ c.requires.out e c.index_mut-component.ensures.value in
    rw (← c.self.view_is) (back_returns g.C.Client.progress G c.args.place e c.args.client c.self.invariant.0.worlds at c.put_client.new.self c.put_client.ensures)

pub returns-clause-client : goal.returns-clause-client
returns-clause-client g c =
    let i = c.self.inside in
    let e = c.index_mut-component.result.now in
    let G : Entries (g.row.C.Denot) = gathered i.components.items i.stock i.book i.registry.given in
    let at = found g.C.Client.progress G _ c.self.view_is c.args.place _ c.requires.out e c.index_mut-component.ensures.value in
    let m = ap (λ (x : Entry (g.row.C.Denot)). x.handle) c.put_client.ensures in
    let own = own_place i.components.items i.registry c.args.place e c.self.invariant.0.registered at in
    rw (← c.self.view_is, there g.C.Client.progress G c.args.place e at)
    (ap in_now (client_set i.components.items c.args.place e c.put_client.new.self e.handle own at m) ∙ ap (λ (x : Entry (g.row.C.Denot)). x.queues.client) c.put_client.ensures)

pub returns-clause-clients : goal.returns-clause-clients
returns-clause-clients g c =
    let i = c.self.inside in
    let e = c.index_mut-component.result.now in
    let G : Entries (g.row.C.Denot) = gathered i.components.items i.stock i.book i.registry.given in
    let at = found g.C.Client.progress G _ c.self.view_is c.args.place _ c.requires.out e c.index_mut-component.ensures.value in
    let m = ap (λ (x : Entry (g.row.C.Denot)). x.handle) c.put_client.ensures in
    rw (← c.self.view_is, there g.C.Client.progress G c.args.place e at) (others_set i.components.items c.args.place e c.put_client.new.self at m)
