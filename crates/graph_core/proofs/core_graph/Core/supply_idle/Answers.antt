use Rattle.std.proofs.Common.{◌≡◌, true, List, slice_get, Some, sym, ◌∙◌, subst}
use Rattle.il_machine.specs.World.{port_of}
use Rattle.il_machine.specs.Ports.{is_supplier}
use Rattle.port_stock.specs.Kept.{stocked}
use Rattle.il_component.specs.Entries.{Entry, component_of}
use Rattle.graph_core.specs.Entries.{Entries, look_of}
use Rattle.graph_core.specs.OtherEnd.{NumbersDiffer}
use Rattle.graph_core.proofs.Numbers.{graph_differs}
use Rattle.graph_core.proofs.Stepping.{port_kept}
use Rattle.graph_core.proofs.Setting.{all_ports}
use Rattle.graph_core.proofs.SupplyTests.{closed_here, closed_there, Says, said, short}
use Rattle.graph_core.proofs.Found.{bounds, found, port_is}
use Rattle.graph_core.proofs.Gathered.{gathered}
use Rattle.graph_core.proofs.core_graph.Core.supply_idle.Goals as goal

pub index-component-requires : goal.index-component-requires
index-component-requires g c =
    let i = c.self.inside in
    bounds g.C.Client.progress (gathered i.components.items i.stock i.book i.registry.given) _ c.self.view_is c.args.place _ c.requires _ i.components.ok.0

pub unreachable-requires : goal.unreachable-requires
unreachable-requires g c =
    let i = c.self.inside in
    port_is g.C.Client.progress (gathered i.components.items i.stock i.book i.registry.given) _ c.self.view_is c.args.place c.args.index c.index-component.result.now c.index-component.ensures c.port.result c.port.ensures c.in_default.is c.requires

pub closed_port-closed_here-requires : goal.closed_port-closed_here-requires
closed_port-closed_here-requires g c =
    let i = c.self.inside in
    let e = c.index-component.result.now in
    let p = c.in-Some.port in
    let G : Entries (g.row.C.Denot) = gathered i.components.items i.stock i.book i.registry.given in
    let at = found g.C.Client.progress G _ c.self.view_is c.args.place _ c.requires e c.index-component.ensures in
    let here : port_of (component_of e) c.args.index ≡ Some p = sym c.port.ensures ∙ c.in-Some.is in
    port_kept g.C.Client.progress i.components.items (stocked i.stock) i.registry.given c.args.place c.args.index e p c.self.invariant.0.ports at here

pub returns-then-is_some : goal.returns-then-is_some
returns-then-is_some g c =
    let i = c.self.inside in
    let e = c.index-component.result.now in
    let p = c.in-Some.port in
    let G : Entries (g.row.C.Denot) = gathered i.components.items i.stock i.book i.registry.given in
    let at = found g.C.Client.progress G _ c.self.view_is c.args.place _ c.requires e c.index-component.ensures in
    let here : port_of (component_of e) c.args.index ≡ Some p = sym c.port.ensures ∙ c.in-Some.is in
    let s : is_supplier p ≡ true = sym c.is_supplier.ensures ∙ c.if-not-is_supplier.false in
    subst (Says c.closed_port-closed_here.result c.args.place c.args.index) c.self.view_is (said g.C.Client.progress G c.args.place e c.args.index p c.closed_port-closed_here.result at here (closed_here (look_of G) (component_of e) p c.closed_port-closed_here.result s c.closed_port-closed_here.ensures (sym c.is_some.ensures ∙ c.if-is_some.true)))

pub closed_peer-closed_there-requires-clause-kept : goal.closed_peer-closed_there-requires-clause-kept
closed_peer-closed_there-requires-clause-kept g c = λ k e at.
    let i = c.self.inside in
    let there : slice_get i.components.items k ≡ Some e = subst (λ (es : List (Entry (g.row.C.Denot))). slice_get es k ≡ Some e) c.deref.ensures.value at in
    all_ports g.C.Client.progress i.components.items i.registry i.stock i.book.units i.book.numbered i.components.cap k e c.self.invariant.0 there

pub closed_peer-closed_there-requires-clause-differ : goal.closed_peer-closed_there-requires-clause-differ
closed_peer-closed_there-requires-clause-differ g c =
    let i = c.self.inside in
    let G : Entries (g.row.C.Denot) = gathered i.components.items i.stock i.book i.registry.given in
    subst (λ (es : List (Entry (g.row.C.Denot))). NumbersDiffer es) (sym c.deref.ensures.value) (graph_differs g.C.Client.progress G c.self.invariant.0.worlds)

pub returns-then-is_some-2 : goal.returns-then-is_some-2
returns-then-is_some-2 g c =
    let i = c.self.inside in
    let e = c.index-component.result.now in
    let p = c.in-Some.port in
    let G : Entries (g.row.C.Denot) = gathered i.components.items i.stock i.book i.registry.given in
    let at = found g.C.Client.progress G _ c.self.view_is c.args.place _ c.requires e c.index-component.ensures in
    let here : port_of (component_of e) c.args.index ≡ Some p = sym c.port.ensures ∙ c.in-Some.is in
    let s : is_supplier p ≡ true = sym c.is_supplier.ensures ∙ c.if-not-is_supplier.false in
    subst (Says c.closed_peer-closed_there.result c.args.place c.args.index) c.self.view_is (said g.C.Client.progress G c.args.place e c.args.index p c.closed_peer-closed_there.result at here (closed_there (look_of G) (component_of e) p c.closed_port-closed_here.result c.closed_peer-closed_there.result s c.closed_port-closed_here.ensures (sym c.is_some.ensures ∙ c.if-is_some.false) (rw c.deref.ensures.value at c.closed_peer-closed_there.ensures) (sym c.is_some-2.ensures ∙ c.if-is_some-2.true)))

pub returns : goal.returns
returns g c =
    let i = c.self.inside in
    let e = c.index-component.result.now in
    let p = c.in-Some.port in
    let G : Entries (g.row.C.Denot) = gathered i.components.items i.stock i.book i.registry.given in
    let at = found g.C.Client.progress G _ c.self.view_is c.args.place _ c.requires e c.index-component.ensures in
    let here : port_of (component_of e) c.args.index ≡ Some p = sym c.port.ensures ∙ c.in-Some.is in
    let s : is_supplier p ≡ true = sym c.is_supplier.ensures ∙ c.if-not-is_supplier.false in
    subst (Says c.shortage.result c.args.place c.args.index) c.self.view_is (said g.C.Client.progress G c.args.place e c.args.index p c.shortage.result at here (short (look_of G) (component_of e) p c.closed_port-closed_here.result c.closed_peer-closed_there.result c.shortage.result s c.closed_port-closed_here.ensures (sym c.is_some.ensures ∙ c.if-is_some.false) (rw c.deref.ensures.value at c.closed_peer-closed_there.ensures) (sym c.is_some-2.ensures ∙ c.if-is_some-2.false) c.shortage.ensures))
