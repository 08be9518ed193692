use Rattle.std.proofs.Common.{◌≡◌, Some, MatchOption, refl, sym, ◌∙◌, subst}
use Rattle.il_machine.specs.World.{port_of}
use Rattle.il_machine.specs.Flow.{back_idle}
use Rattle.port_stock.specs.Kept.{stocked}
use Rattle.il_component.specs.Entries.{component_of}
use Rattle.graph_core.specs.Entries.{Entries, component_at, look_of}
use Rattle.graph_core.proofs.Replacing.{there}
use Rattle.graph_core.proofs.Stepping.{port_kept}
use Rattle.graph_core.proofs.Found.{bounds, found, port_is}
use Rattle.graph_core.proofs.Gathered.{gathered}
use Rattle.graph_core.proofs.core_graph.Core.back_idle.Goals as goal

pub index-component-requires : goal.index-component-requires
index-component-requires g c =
    let i = c.self.inside in
    bounds g.C.Client.progress (gathered i.components.items i.stock i.book i.registry.given) _ c.self.view_is c.args.place _ c.requires _ i.components.ok.0

pub unreachable-requires : goal.unreachable-requires
unreachable-requires g c =
    let i = c.self.inside in
    port_is g.C.Client.progress (gathered i.components.items i.stock i.book i.registry.given) _ c.self.view_is c.args.place c.args.index c.index-component.result.now c.index-component.ensures c.port.result c.port.ensures c.in_default.is c.requires

pub back_idle-requires : goal.back_idle-requires
back_idle-requires g c =
    let i = c.self.inside in
    let e = c.index-component.result.now in
    let p = c.in-Some.port in
    let G : Entries (g.row.C.Denot) = gathered i.components.items i.stock i.book i.registry.given in
    let at = found g.C.Client.progress G _ c.self.view_is c.args.place _ c.requires e c.index-component.ensures in
    let here : port_of (component_of e) c.args.index ≡ Some p = sym c.port.ensures ∙ c.in-Some.is in
    port_kept g.C.Client.progress i.components.items (stocked i.stock) i.registry.given c.args.place c.args.index e p c.self.invariant.0.ports at here

pub returns : goal.returns
returns g c =
    let i = c.self.inside in
    let e = c.index-component.result.now in
    let p = c.in-Some.port in
    let G : Entries (g.row.C.Denot) = gathered i.components.items i.stock i.book i.registry.given in
    let at = found g.C.Client.progress G _ c.self.view_is c.args.place _ c.requires e c.index-component.ensures in
    let here : port_of (component_of e) c.args.index ≡ Some p = sym c.port.ensures ∙ c.in-Some.is in
    let Says : Entries (g.row.C.Denot) → Type 0 = λ x. MatchOption (component_at c.args.place x) ⊥ (λ k. MatchOption (port_of k c.args.index) ⊥ (λ q. c.back_idle.result ≡ back_idle (look_of x) k q)) in
    let there_it_says : Says G = rw (there g.C.Client.progress G c.args.place e at, here) (c.back_idle.ensures (look_of G) refl) in
    subst Says c.self.view_is there_it_says
