use Rattle.std.proofs.Common.{◌≡◌, Some, None, sym, ◌∙◌, ap}
use Rattle.il_machine.specs.World.{port_of}
use Rattle.il_machine.specs.Stock.{Stocked}
use Rattle.il_component.specs.Entries.{component_of}
use Rattle.graph_core.specs.Changes.{IsHandedIn}
use Rattle.graph_core.specs.Entries.{Entries, look_of}
use Rattle.graph_core.proofs.Clients.{clients_set}
use Rattle.graph_core.proofs.Replacing.{there}
use Rattle.graph_core.proofs.Handing.{outside, port_needed, allowed_at, room_there, unpopulated_handle, unpopulated_ports, unpopulated_pending, freed_returns, freed_worlds, unpopulated_row}
use Rattle.graph_core.proofs.Found.{bounds, found}
use Rattle.graph_core.proofs.Cores.{core_with}
use Rattle.graph_core.proofs.Gathered.{gathered}
use Rattle.graph_core.proofs.core_graph.Core.free_buffer.Goals as goal

pub index_mut-component-requires : goal.index_mut-component-requires
index_mut-component-requires g c =
    let i = c.self.inside in
    bounds g.C.Client.progress (gathered i.components.items i.stock i.book i.registry.given) _ c.self.view_is c.args.place _ c.requires.free _ i.components.ok.0

pub unpopulate-requires : goal.unpopulate-requires
unpopulate-requires g c =
    let i = c.self.inside in
    let e = c.index_mut-component.result.now in
    let p = c.in-Some.port in
    let G : Entries (g.row.C.Denot) = gathered i.components.items i.stock i.book i.registry.given in
    let asked = rw (← c.self.view_is) at c.requires.free in
    let at = found g.C.Client.progress G _ c.self.view_is c.args.place _ c.requires.free e c.index_mut-component.ensures.value in
    let here : port_of (component_of e) c.args.index ≡ Some p = sym c.port.ensures ∙ c.in-Some.is in
    let handed : IsHandedIn c.args.header (look_of G) = rw (← c.self.view_is) at c.requires.handed in
    let allowed = allowed_at g.C.Client.progress G c.args.place e c.args.index p c.self.invariant.0.worlds at here c.args.header handed (Some p) (rw (there g.C.Client.progress G c.args.place e at, here) at asked) in
    room_there g.C.Client.progress G c.args.place e c.args.index p c.self.invariant.0.worlds at here c.args.header handed allowed

pub unmake_header-requires : goal.unmake_header-requires
unmake_header-requires g c =
    let i = c.self.inside in
    let e = c.index_mut-component.result.now in
    let p = c.in-Some.port in
    let G : Entries (g.row.C.Denot) = gathered i.components.items i.stock i.book i.registry.given in
    let at = found g.C.Client.progress G _ c.self.view_is c.args.place _ c.requires.free e c.index_mut-component.ensures.value in
    let here : port_of (component_of e) c.args.index ≡ Some p = sym c.port.ensures ∙ c.in-Some.is in
    let handed : IsHandedIn c.args.header (look_of G) = rw (← c.self.view_is) at c.requires.handed in
    outside g.C.Client.progress G c.args.place e c.args.index p c.self.invariant.0.worlds at here c.args.header handed

pub invariant_of-self : goal.invariant_of-self
invariant_of-self g c =
    let i = c.self.inside in
    let e = c.index_mut-component.result.now in
    let p = c.in-Some.port in
    let G : Entries (g.row.C.Denot) = gathered i.components.items i.stock i.book i.registry.given in
    let asked = rw (← c.self.view_is) at c.requires.free in
    let at = found g.C.Client.progress G _ c.self.view_is c.args.place _ c.requires.free e c.index_mut-component.ensures.value in
    let here : port_of (component_of e) c.args.index ≡ Some p = sym c.port.ensures ∙ c.in-Some.is in
    let handed : IsHandedIn c.args.header (look_of G) = rw (← c.self.view_is) at c.requires.handed in
    let allowed = allowed_at g.C.Client.progress G c.args.place e c.args.index p c.self.invariant.0.worlds at here c.args.header handed (Some p) (rw (there g.C.Client.progress G c.args.place e at, here) at asked) in
    let d = c.unpopulate.new.component in
    core_with g.C.Client.progress i.components.items i.registry i.stock i.book i.marked i.components.cap c.self.invariant c.unmake_header.new.self c.args.place e d _ at c.unpopulate.ensures.component (unpopulated_handle p (component_of e)) (unpopulated_ports p (component_of e)) (unpopulated_pending p (component_of e)) (unpopulated_row p (component_of e))
    (ap (λ (s : Stocked). s.ports) c.unmake_header.ensures.stock)
    (freed_worlds g.C.Client.progress G c.args.place e c.args.index p c.self.invariant.0.worlds at here c.args.header handed allowed d c.unpopulate.ensures.component c.unpopulate.ensures.kept c.unmake_header.new.self c.unmake_header.ensures.stock)

pub returns-clause-change : goal.returns-clause-change
returns-clause-change g c =
    let i = c.self.inside in
    let e = c.index_mut-component.result.now in
    let p = c.in-Some.port in
    let G : Entries (g.row.C.Denot) = gathered i.components.items i.stock i.book i.registry.given in
    let asked = rw (← c.self.view_is) at c.requires.free in
    let at = found g.C.Client.progress G _ c.self.view_is c.args.place _ c.requires.free e c.index_mut-component.ensures.value in
    let here : port_of (component_of e) c.args.index ≡ Some p = sym c.port.ensures ∙ c.in-Some.is in
    let handed : IsHandedIn c.args.header (look_of G) = rw (← c.self.view_is) at c.requires.handed in
    let allowed = allowed_at g.C.Client.progress G c.args.place e c.args.index p c.self.invariant.0.worlds at here c.args.header handed (Some p) (rw (there g.C.Client.progress G c.args.place e at, here) at asked) in
    let d = c.unpopulate.new.component in
    rw (← c.self.view_is) (freed_returns g.C.Client.progress G c.args.place e c.args.index p c.self.invariant.0.worlds at here c.args.header handed allowed d c.unpopulate.ensures.component c.unpopulate.ensures.kept c.unmake_header.new.self c.unmake_header.ensures.stock)

pub unreachable-requires : goal.unreachable-requires
unreachable-requires g c =
    let i = c.self.inside in
    let e = c.index_mut-component.result.now in
    let G : Entries (g.row.C.Denot) = gathered i.components.items i.stock i.book i.registry.given in
    let asked = rw (← c.self.view_is) at c.requires.free in
    let at = found g.C.Client.progress G _ c.self.view_is c.args.place _ c.requires.free e c.index_mut-component.ensures.value in
    let none : port_of (component_of e) c.args.index ≡ None = sym c.port.ensures ∙ c.in_default.is in
    let handed : IsHandedIn c.args.header (look_of G) = rw (← c.self.view_is) at c.requires.handed in
    port_needed g.C.Client.progress G c.args.place e c.self.invariant.0.worlds at c.args.header handed (rw (there g.C.Client.progress G c.args.place e at, none) at asked)

pub returns-clause-clients : goal.returns-clause-clients
returns-clause-clients g c =
    let i = c.self.inside in
    let e = c.index_mut-component.result.now in
    let G : Entries (g.row.C.Denot) = gathered i.components.items i.stock i.book i.registry.given in
    let at = found g.C.Client.progress G _ c.self.view_is c.args.place _ c.requires.free e c.index_mut-component.ensures.value in
    let p = c.in-Some.port in
    rw (← c.self.view_is) (clients_set i.components.items c.args.place e c.unpopulate.new.component at (ap (λ x. x.handle) c.unpopulate.ensures.component ∙ unpopulated_handle p (component_of e)) c.unpopulate.ensures.kept.client)
