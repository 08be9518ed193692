use Rattle.std.proofs.Common.{◌≡◌, Some, refl, sym, ◌∙◌, ap}
use Rattle.il_machine.specs.World.{port_of}
use Rattle.il_machine.specs.Stock.{Stocked}
use Rattle.port_stock.specs.Kept.{stocked}
use Rattle.il_component.specs.Entries.{component_of}
use Rattle.graph_core.specs.Changes.{IsHandedIn}
use Rattle.graph_core.specs.Entries.{Entries, look_of}
use Rattle.graph_core.proofs.Replacing.{there}
use Rattle.graph_core.proofs.Stepping.{port_kept}
use Rattle.graph_core.proofs.Handing.{outside, for_this_port, in_returns, in_worlds}
use Rattle.graph_core.proofs.Found.{bounds, found, port_has}
use Rattle.graph_core.proofs.Cores.{core_stocked}
use Rattle.graph_core.proofs.Gathered.{gathered}
use Rattle.graph_core.proofs.core_graph.Core.take_in.Goals as goal

pub index-component-requires : goal.index-component-requires
index-component-requires g c =
    let i = c.self.inside in
    bounds g.C.Client.progress (gathered i.components.items i.stock i.book i.registry.given) _ c.self.view_is c.args.place _ c.requires.made_for _ i.components.ok.0

pub unreachable-requires : goal.unreachable-requires
unreachable-requires g c =
    let i = c.self.inside in
    port_has g.C.Client.progress (gathered i.components.items i.stock i.book i.registry.given) _ c.self.view_is c.args.place c.args.index c.index-component.result.now c.index-component.ensures c.port.result c.port.ensures c.in_default.is _ c.requires.made_for

pub push_header-requires-clause-port : goal.push_header-requires-clause-port
push_header-requires-clause-port g c =
    let i = c.self.inside in
    let e = c.index-component.result.now in
    let p = c.in-Some.port in
    let G : Entries (g.row.C.Denot) = gathered i.components.items i.stock i.book i.registry.given in
    let at = found g.C.Client.progress G _ c.self.view_is c.args.place _ c.requires.made_for e c.index-component.ensures in
    let here : port_of (component_of e) c.args.index ≡ Some p = sym c.port.ensures ∙ c.in-Some.is in
    port_kept g.C.Client.progress i.components.items (stocked i.stock) i.registry.given c.args.place c.args.index e p c.self.invariant.0.ports at here

pub push_header-requires-clause-outside : goal.push_header-requires-clause-outside
push_header-requires-clause-outside g c =
    let i = c.self.inside in
    let e = c.index-component.result.now in
    let p = c.in-Some.port in
    let G : Entries (g.row.C.Denot) = gathered i.components.items i.stock i.book i.registry.given in
    let at = found g.C.Client.progress G _ c.self.view_is c.args.place _ c.requires.made_for e c.index-component.ensures in
    let here : port_of (component_of e) c.args.index ≡ Some p = sym c.port.ensures ∙ c.in-Some.is in
    let handed : IsHandedIn c.args.header (look_of G) = rw (← c.self.view_is) at c.requires.handed in
    outside g.C.Client.progress G c.args.place e c.args.index p c.self.invariant.0.worlds at here c.args.header handed

pub push_header-requires-clause-made_for : goal.push_header-requires-clause-made_for
push_header-requires-clause-made_for g c =
    let i = c.self.inside in
    let e = c.index-component.result.now in
    let p = c.in-Some.port in
    let G : Entries (g.row.C.Denot) = gathered i.components.items i.stock i.book i.registry.given in
    let asked = rw (← c.self.view_is) at c.requires.made_for in
    let at = found g.C.Client.progress G _ c.self.view_is c.args.place _ c.requires.made_for e c.index-component.ensures in
    let here : port_of (component_of e) c.args.index ≡ Some p = sym c.port.ensures ∙ c.in-Some.is in
    let handed : IsHandedIn c.args.header (look_of G) = rw (← c.self.view_is) at c.requires.handed in
    let own = rw (there g.C.Client.progress G c.args.place e at, here) at asked in
    for_this_port g.C.Client.progress G c.args.place e c.args.index p c.self.invariant.0.worlds at here c.args.header handed own

pub invariant_of-self : goal.invariant_of-self
invariant_of-self g c =
    let i = c.self.inside in
    let e = c.index-component.result.now in
    let p = c.in-Some.port in
    let G : Entries (g.row.C.Denot) = gathered i.components.items i.stock i.book i.registry.given in
    let asked = rw (← c.self.view_is) at c.requires.made_for in
    let at = found g.C.Client.progress G _ c.self.view_is c.args.place _ c.requires.made_for e c.index-component.ensures in
    let here : port_of (component_of e) c.args.index ≡ Some p = sym c.port.ensures ∙ c.in-Some.is in
    let handed : IsHandedIn c.args.header (look_of G) = rw (← c.self.view_is) at c.requires.handed in
    let own = rw (there g.C.Client.progress G c.args.place e at, here) at asked in
    core_stocked g.C.Client.progress i.components.items i.registry i.stock i.book i.marked i.components.cap c.self.invariant c.push_header.new.self (ap (λ (s : Stocked). s.ports) c.push_header.ensures)
    (in_worlds g.C.Client.progress G c.args.place e c.args.index p c.self.invariant.0.worlds at here c.args.header handed own c.push_header.new.self c.push_header.ensures)

pub returns-clause-change : goal.returns-clause-change
returns-clause-change g c =
    let i = c.self.inside in
    let e = c.index-component.result.now in
    let p = c.in-Some.port in
    let G : Entries (g.row.C.Denot) = gathered i.components.items i.stock i.book i.registry.given in
    let asked = rw (← c.self.view_is) at c.requires.made_for in
    let at = found g.C.Client.progress G _ c.self.view_is c.args.place _ c.requires.made_for e c.index-component.ensures in
    let here : port_of (component_of e) c.args.index ≡ Some p = sym c.port.ensures ∙ c.in-Some.is in
    let handed : IsHandedIn c.args.header (look_of G) = rw (← c.self.view_is) at c.requires.handed in
    let own = rw (there g.C.Client.progress G c.args.place e at, here) at asked in
    rw (← c.self.view_is) (in_returns g.C.Client.progress G c.args.place e c.args.index p c.self.invariant.0.worlds at here c.args.header handed own c.push_header.new.self c.push_header.ensures)

pub returns-clause-clients : goal.returns-clause-clients
returns-clause-clients g c = rw (← c.self.view_is) (λ k. refl)
