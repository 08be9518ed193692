use Rattle.std.proofs.Common.{◌≡◌, List, Some, MatchOption, refl, sym, ◌∙◌, ap, subst}
use Rattle.il_machine.specs.World.{port_of}
use Rattle.il_machine.specs.Flow.{over_idle}
use Rattle.port_stock.specs.Kept.{stocked}
use Rattle.il_component.specs.Entries.{Entry, component_of}
use Rattle.graph_core.specs.Entries.{Entries, component_at, components_of, look_of}
use Rattle.graph_core.specs.OtherEnd.{NumbersDiffer}
use Rattle.graph_core.proofs.Numbers.{graph_differs}
use Rattle.graph_core.proofs.Replacing.{there}
use Rattle.graph_core.proofs.Stepping.{port_kept}
use Rattle.graph_core.proofs.Found.{bounds, found, port_is}
use Rattle.graph_core.proofs.Gathered.{gathered}
use Rattle.graph_core.proofs.core_graph.Core.over_idle.Goals as goal

pub index-component-requires : goal.index-component-requires
index-component-requires g c =
    let i = c.self.inside in
    bounds g.C.Client.progress (gathered i.components.items i.stock i.book i.registry.given) _ c.self.view_is c.args.place _ c.requires _ i.components.ok.0

pub unreachable-requires : goal.unreachable-requires
unreachable-requires g c =
    let i = c.self.inside in
    port_is g.C.Client.progress (gathered i.components.items i.stock i.book i.registry.given) _ c.self.view_is c.args.place c.args.index c.index-component.result.now c.index-component.ensures c.port.result c.port.ensures c.in_default.is c.requires

pub over_idle-requires-clause-port : goal.over_idle-requires-clause-port
over_idle-requires-clause-port g c =
    let i = c.self.inside in
    let e = c.index-component.result.now in
    let p = c.in-Some.port in
    let G : Entries (g.row.C.Denot) = gathered i.components.items i.stock i.book i.registry.given in
    let at = found g.C.Client.progress G _ c.self.view_is c.args.place _ c.requires e c.index-component.ensures in
    let here : port_of (component_of e) c.args.index ≡ Some p = sym c.port.ensures ∙ c.in-Some.is in
    port_kept g.C.Client.progress i.components.items (stocked i.stock) i.registry.given c.args.place c.args.index e p c.self.invariant.0.ports at here

pub over_idle-requires-clause-differ : goal.over_idle-requires-clause-differ
over_idle-requires-clause-differ g c =
    let i = c.self.inside in
    let G : Entries (g.row.C.Denot) = gathered i.components.items i.stock i.book i.registry.given in
    subst (λ (es : List (Entry (g.row.C.Denot))). NumbersDiffer es) (sym c.deref.ensures.value) (graph_differs g.C.Client.progress G c.self.invariant.0.worlds)

pub returns : goal.returns
returns g c =
    let i = c.self.inside in
    let e = c.index-component.result.now in
    let p = c.in-Some.port in
    let G : Entries (g.row.C.Denot) = gathered i.components.items i.stock i.book i.registry.given in
    let at = found g.C.Client.progress G _ c.self.view_is c.args.place _ c.requires e c.index-component.ensures in
    let here : port_of (component_of e) c.args.index ≡ Some p = sym c.port.ensures ∙ c.in-Some.is in
    let Says : Entries (g.row.C.Denot) → Type 0 = λ x. MatchOption (component_at c.args.place x) ⊥ (λ k. MatchOption (port_of k c.args.index) ⊥ (λ q. c.over_idle.result ≡ over_idle (look_of x) k q)) in
    let there_it_says : Says G = rw (there g.C.Client.progress G c.args.place e at, here) (c.over_idle.ensures (look_of G) refl (ap components_of (sym c.deref.ensures.value))) in
    subst Says c.self.view_is there_it_says
