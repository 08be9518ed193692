use Rattle.std.proofs.Common.{◌≡◌, true, false, Some, refl, sym, ◌∙◌}
use Rattle.il_machine.specs.World.{port_of}
use Rattle.port_stock.specs.Kept.{stocked}
use Rattle.il_component.specs.Entries.{component_of}
use Rattle.graph_core.specs.Entries.{Entries, look_of}
use Rattle.graph_core.proofs.Replacing.{there}
use Rattle.graph_core.proofs.Stepping.{port_kept}
use Rattle.graph_core.proofs.SupplyTests.{release_at}
use Rattle.graph_core.proofs.Found.{bounds, found, port_is}
use Rattle.graph_core.proofs.Gathered.{gathered}
use Rattle.graph_core.proofs.core_graph.Core.release_idle.Goals as goal

pub index-component-requires : goal.index-component-requires
index-component-requires g c =
    let i = c.self.inside in
    bounds g.C.Client.progress (gathered i.components.items i.stock i.book i.registry.given) _ c.self.view_is c.args.place _ c.requires _ i.components.ok.0

pub unreachable-requires : goal.unreachable-requires
unreachable-requires g c =
    let i = c.self.inside in
    port_is g.C.Client.progress (gathered i.components.items i.stock i.book i.registry.given) _ c.self.view_is c.args.place c.args.index c.index-component.result.now c.index-component.ensures c.port.result c.port.ensures c.in_default.is c.requires

pub has_none-requires : goal.has_none-requires
has_none-requires g c =
    let i = c.self.inside in
    let e = c.index-component.result.now in
    let p = c.in-Some.port in
    let G : Entries (g.row.C.Denot) = gathered i.components.items i.stock i.book i.registry.given in
    let at = found g.C.Client.progress G _ c.self.view_is c.args.place _ c.requires e c.index-component.ensures in
    let here : port_of (component_of e) c.args.index ≡ Some p = sym c.port.ensures ∙ c.in-Some.is in
    port_kept g.C.Client.progress i.components.items (stocked i.stock) i.registry.given c.args.place c.args.index e p c.self.invariant.0.ports at here

pub returns-then-not-is_supplier : goal.returns-then-not-is_supplier
returns-then-not-is_supplier g c =
    let i = c.self.inside in
    let e = c.index-component.result.now in
    let p = c.in-Some.port in
    let G : Entries (g.row.C.Denot) = gathered i.components.items i.stock i.book i.registry.given in
    let at = found g.C.Client.progress G _ c.self.view_is c.args.place _ c.requires e c.index-component.ensures in
    let here : port_of (component_of e) c.args.index ≡ Some p = sym c.port.ensures ∙ c.in-Some.is in
    rw (← c.self.view_is, there g.C.Client.progress G c.args.place e at, here) (sym (release_at (look_of G) (component_of e) p false _ _ (sym c.is_supplier.ensures ∙ c.if-not-is_supplier.true) refl refl))

pub returns-then-not-is_leaving : goal.returns-then-not-is_leaving
returns-then-not-is_leaving g c =
    let i = c.self.inside in
    let e = c.index-component.result.now in
    let p = c.in-Some.port in
    let G : Entries (g.row.C.Denot) = gathered i.components.items i.stock i.book i.registry.given in
    let at = found g.C.Client.progress G _ c.self.view_is c.args.place _ c.requires e c.index-component.ensures in
    let here : port_of (component_of e) c.args.index ≡ Some p = sym c.port.ensures ∙ c.in-Some.is in
    rw (← c.self.view_is, there g.C.Client.progress G c.args.place e at, here) (sym (release_at (look_of G) (component_of e) p true false _ (sym c.is_supplier.ensures ∙ c.if-not-is_supplier.false) (sym c.is_leaving.ensures ∙ c.if-not-is_leaving.true) refl))

pub returns-then-has_none : goal.returns-then-has_none
returns-then-has_none g c =
    let i = c.self.inside in
    let e = c.index-component.result.now in
    let p = c.in-Some.port in
    let G : Entries (g.row.C.Denot) = gathered i.components.items i.stock i.book i.registry.given in
    let at = found g.C.Client.progress G _ c.self.view_is c.args.place _ c.requires e c.index-component.ensures in
    let here : port_of (component_of e) c.args.index ≡ Some p = sym c.port.ensures ∙ c.in-Some.is in
    rw (← c.self.view_is, there g.C.Client.progress G c.args.place e at, here) (sym (release_at (look_of G) (component_of e) p true true true (sym c.is_supplier.ensures ∙ c.if-not-is_supplier.false) (sym c.is_leaving.ensures ∙ c.if-not-is_leaving.false) (sym c.has_none.ensures ∙ c.if-has_none.true)))

pub returns-else-has_none : goal.returns-else-has_none
returns-else-has_none g c =
    let i = c.self.inside in
    let e = c.index-component.result.now in
    let p = c.in-Some.port in
    let G : Entries (g.row.C.Denot) = gathered i.components.items i.stock i.book i.registry.given in
    let at = found g.C.Client.progress G _ c.self.view_is c.args.place _ c.requires e c.index-component.ensures in
    let here : port_of (component_of e) c.args.index ≡ Some p = sym c.port.ensures ∙ c.in-Some.is in
    rw (← c.self.view_is, there g.C.Client.progress G c.args.place e at, here) (sym (release_at (look_of G) (component_of e) p true true false (sym c.is_supplier.ensures ∙ c.if-not-is_supplier.false) (sym c.is_leaving.ensures ∙ c.if-not-is_leaving.false) (sym c.has_none.ensures ∙ c.if-has_none.false)))
