use Rattle.std.proofs.Common.{◌≡◌, Some, refl, sym}
use Rattle.il_machine.specs.World.{port_of}
use Rattle.il_component.specs.Entries.{component_of}
use Rattle.port_stock.specs.Kept.{stocked}
use Rattle.graph_core.specs.Entries.{Entries}
use Rattle.graph_core.proofs.Replacing.{there}
use Rattle.graph_core.proofs.Setting.{all_ports}
use Rattle.port_rules.proofs.Walking.{port_kept}
use Rattle.graph_core.proofs.Found.{bounds_of, found_of}
use Rattle.graph_core.proofs.Gathered.{gathered}
use Rattle.graph_core.proofs.core_graph.Core.port_view.Goals as goal

pub index-component-requires : goal.index-component-requires
index-component-requires g c =
    let i = c.self.inside in
    bounds_of g.C.Client.progress (gathered i.components.items i.stock i.book i.registry.given) _ c.self.view_is c.args.place _ i.components.ok.0 c.requires

pub made-requires : goal.made-requires
made-requires g c =
    let i = c.self.inside in
    let p = g.C.Client.progress in
    let e = c.index-component.result.now in
    let at = found_of p (gathered i.components.items i.stock i.book i.registry.given) _ c.self.view_is c.args.place c.requires e c.index-component.ensures in
    port_kept (component_of e) (stocked i.stock) c.args.index c.in_ok-port.port
    (all_ports p i.components.items i.registry i.stock i.book.units i.book.numbered i.components.cap c.args.place e c.self.invariant.0 at) (sym c.in_ok-port.ensures)

pub returns : goal.returns
returns g c =
    let i = c.self.inside in
    let p = g.C.Client.progress in
    let G : Entries (g.row.C.Denot) = gathered i.components.items i.stock i.book i.registry.given in
    let e = c.index-component.result.now in
    let at = found_of p G _ c.self.view_is c.args.place c.requires e c.index-component.ensures in
    let n : port_of (component_of e) c.args.index ≡ Some c.in_ok-port.port = sym c.in_ok-port.ensures in
    rw (← c.self.view_is, there p G c.args.place e at, n, ← c.made.ensures.made) refl
