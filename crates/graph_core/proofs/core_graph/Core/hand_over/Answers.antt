use Rattle.std.proofs.Common.{◌≡◌, Some, None, sym, ◌∙◌, refl}
use Rattle.il_machine.specs.World.{port_of}
use Rattle.port_stock.specs.Kept.{stocked}
use Rattle.il_component.specs.Entries.{component_of}
use Rattle.graph_core.specs.Entries.{Entries}
use Rattle.graph_core.proofs.Stepping.{port_kept}
use Rattle.graph_core.proofs.MovingSteps.{shared, over_returns, over_worlds, over_nothing}
use Rattle.graph_core.proofs.Peers.{peer_kept}
use Rattle.graph_core.proofs.Found.{bounds, found, port_is}
use Rattle.graph_core.proofs.Cores.{core_stocked}
use Rattle.graph_core.proofs.Gathered.{gathered}
use Rattle.graph_core.proofs.core_graph.Core.hand_over.Goals as goal

pub index-component-requires : goal.index-component-requires
index-component-requires g c =
    let i = c.self.inside in
    bounds g.C.Client.progress (gathered i.components.items i.stock i.book i.registry.given) _ c.self.view_is c.args.place _ c.requires _ i.components.ok.0

pub unreachable-requires : goal.unreachable-requires
unreachable-requires g c =
    let i = c.self.inside in
    port_is g.C.Client.progress (gathered i.components.items i.stock i.book i.registry.given) _ c.self.view_is c.args.place c.args.index c.index-component.result.now c.index-component.ensures c.port.result c.port.ensures c.in_default.is c.requires

pub returns-in_default-link-clause-change : goal.returns-in_default-link-clause-change
returns-in_default-link-clause-change g c =
    let i = c.self.inside in
    let e = c.index-component.result.now in
    let p = c.in-Some.port in
    let G : Entries (g.row.C.Denot) = gathered i.components.items i.stock i.book i.registry.given in
    let at = found g.C.Client.progress G _ c.self.view_is c.args.place _ c.requires e c.index-component.ensures in
    let here : port_of (component_of e) c.args.index ≡ Some p = sym c.port.ensures ∙ c.in-Some.is in
    let alone : p.state.link ≡ None = c.in_default-link.is in
    rw (← c.self.view_is) (over_nothing g.C.Client.progress G c.args.place e c.args.index p c.self.invariant.0.worlds at here alone)

pub pass_on-requires-clause-port : goal.pass_on-requires-clause-port
pass_on-requires-clause-port g c =
    let i = c.self.inside in
    let e = c.index-component.result.now in
    let p = c.in-Some.port in
    let G : Entries (g.row.C.Denot) = gathered i.components.items i.stock i.book i.registry.given in
    let at = found g.C.Client.progress G _ c.self.view_is c.args.place _ c.requires e c.index-component.ensures in
    let here : port_of (component_of e) c.args.index ≡ Some p = sym c.port.ensures ∙ c.in-Some.is in
    port_kept g.C.Client.progress i.components.items (stocked i.stock) i.registry.given c.args.place c.args.index e p c.self.invariant.0.ports at here

pub pass_on-requires-clause-peer : goal.pass_on-requires-clause-peer
pass_on-requires-clause-peer g c =
    let i = c.self.inside in
    let e = c.index-component.result.now in
    let p = c.in-Some.port in
    let G : Entries (g.row.C.Denot) = gathered i.components.items i.stock i.book i.registry.given in
    let at = found g.C.Client.progress G _ c.self.view_is c.args.place _ c.requires e c.index-component.ensures in
    let here : port_of (component_of e) c.args.index ≡ Some p = sym c.port.ensures ∙ c.in-Some.is in
    let link = c.in-Some-link.link in
    let joined : p.state.link ≡ Some link = c.in-Some-link.is in
    peer_kept g.C.Client.progress G c.args.place e c.args.index p link c.self.invariant.0.worlds at here joined c.self.invariant.0.ports

pub pass_on-requires-clause-shared : goal.pass_on-requires-clause-shared
pass_on-requires-clause-shared g c =
    let i = c.self.inside in
    let e = c.index-component.result.now in
    let p = c.in-Some.port in
    let G : Entries (g.row.C.Denot) = gathered i.components.items i.stock i.book i.registry.given in
    let at = found g.C.Client.progress G _ c.self.view_is c.args.place _ c.requires e c.index-component.ensures in
    let here : port_of (component_of e) c.args.index ≡ Some p = sym c.port.ensures ∙ c.in-Some.is in
    let link = c.in-Some-link.link in
    let joined : p.state.link ≡ Some link = c.in-Some-link.is in
    shared g.C.Client.progress G c.args.place e c.args.index p c.self.invariant.0.worlds at here link joined

pub invariant_of-self : goal.invariant_of-self
invariant_of-self g c =
    let i = c.self.inside in
    let e = c.index-component.result.now in
    let p = c.in-Some.port in
    let G : Entries (g.row.C.Denot) = gathered i.components.items i.stock i.book i.registry.given in
    let at = found g.C.Client.progress G _ c.self.view_is c.args.place _ c.requires e c.index-component.ensures in
    let here : port_of (component_of e) c.args.index ≡ Some p = sym c.port.ensures ∙ c.in-Some.is in
    let link = c.in-Some-link.link in
    let joined : p.state.link ≡ Some link = c.in-Some-link.is in
    core_stocked g.C.Client.progress i.components.items i.registry i.stock i.book i.marked i.components.cap c.self.invariant c.pass_on.new.stock c.pass_on.ensures.ports
    (over_worlds g.C.Client.progress G c.args.place e c.args.index p c.self.invariant.0.worlds at here link joined c.pass_on.new.stock c.pass_on.ensures)

pub returns-clause-change : goal.returns-clause-change
returns-clause-change g c =
    let i = c.self.inside in
    let e = c.index-component.result.now in
    let p = c.in-Some.port in
    let G : Entries (g.row.C.Denot) = gathered i.components.items i.stock i.book i.registry.given in
    let at = found g.C.Client.progress G _ c.self.view_is c.args.place _ c.requires e c.index-component.ensures in
    let here : port_of (component_of e) c.args.index ≡ Some p = sym c.port.ensures ∙ c.in-Some.is in
    let link = c.in-Some-link.link in
    let joined : p.state.link ≡ Some link = c.in-Some-link.is in
    rw (← c.self.view_is) (over_returns g.C.Client.progress G c.args.place e c.args.index p c.self.invariant.0.worlds at here link joined c.pass_on.new.stock c.pass_on.ensures)

pub returns-clause-clients : goal.returns-clause-clients
returns-clause-clients g c = rw (← c.self.view_is) (λ k. refl)

pub returns-in_default-link-clause-clients : goal.returns-in_default-link-clause-clients
returns-in_default-link-clause-clients g c = rw (← c.self.view_is) (λ k. refl)
