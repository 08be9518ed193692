use Rattle.il_machine.specs.World.{Component}
use Rattle.il_machine.specs.declared.port.Port.{Port}
use Rattle.std.proofs.Common.{◌≡◌, slice_get, Some, None, option_map, sym, ◌∙◌, ap, refl}
use Rattle.il_machine.specs.Flow.{in_port, release_idle}
use Rattle.il_machine.specs.Stock.{Stocked, header_unmade}
use Rattle.port_stock.specs.Kept.{stocked}
use Rattle.port_stock.specs.Conditions.{number_of}
use Rattle.il_component.specs.Entries.{component_of}
use Rattle.graph_core.specs.Supplying.{front_left}
use Rattle.graph_core.specs.Entries.{Entries, look_of}
use Rattle.graph_core.proofs.Stepping.{port_kept}
use Rattle.graph_core.proofs.Released.{front_left_ports, released_some, released_returns, released_worlds}
use Rattle.graph_core.proofs.Found.{port_here, bounds, port_has}
use Rattle.graph_core.proofs.Cores.{core_stocked}
use Rattle.graph_core.proofs.Gathered.{gathered}
use Rattle.graph_core.proofs.core_graph.Core.release.Goals as goal

abbrev MayRelease : {C : Type 0} → Entries C → Component → Port → Type 0
MayRelease g c p = release_idle (look_of g) c p ≡ None

pub index-component-requires : goal.index-component-requires
index-component-requires g c =
    let i = c.self.inside in
    bounds g.C.Client.progress (gathered i.components.items i.stock i.book i.registry.given) _ c.self.view_is c.args.place _ c.requires _ i.components.ok.0

pub unreachable-requires : goal.unreachable-requires
unreachable-requires g c =
    let i = c.self.inside in
    port_has g.C.Client.progress (gathered i.components.items i.stock i.book i.registry.given) _ c.self.view_is c.args.place c.args.index c.index-component.result.now c.index-component.ensures c.port.result c.port.ensures c.in_default.is _ c.requires

pub take_front-requires : goal.take_front-requires
take_front-requires g c =
    let i = c.self.inside in
    let e = c.index-component.result.now in
    let p = c.in-Some.port in
    let G : Entries (g.row.C.Denot) = gathered i.components.items i.stock i.book i.registry.given in
    let H = port_here g.C.Client.progress G _ c.self.view_is c.args.place c.args.index MayRelease c.requires e c.index-component.ensures c.port.result c.port.ensures p c.in-Some.is in
    port_kept g.C.Client.progress i.components.items (stocked i.stock) i.registry.given c.args.place c.args.index e p c.self.invariant.0.ports H.at H.here

pub unreachable-requires-in_default-take_front : goal.unreachable-requires-in_default-take_front
unreachable-requires-in_default-take_front g c =
    let i = c.self.inside in
    let e = c.index-component.result.now in
    let p = c.in-Some.port in
    let G : Entries (g.row.C.Denot) = gathered i.components.items i.stock i.book i.registry.given in
    let H = port_here g.C.Client.progress G _ c.self.view_is c.args.place c.args.index MayRelease c.requires e c.index-component.ensures c.port.result c.port.ensures p c.in-Some.is in
    let none : None ≡ slice_get (in_port (stocked i.stock).headers p) 0 = sym (ap (option_map number_of) c.in_default-take_front.is) ∙ c.take_front.ensures.front in
    released_some (look_of G) (component_of e) p H.has none

pub invariant_of-self : goal.invariant_of-self
invariant_of-self g c =
    let i = c.self.inside in
    let e = c.index-component.result.now in
    let p = c.in-Some.port in
    let G : Entries (g.row.C.Denot) = gathered i.components.items i.stock i.book i.registry.given in
    let H = port_here g.C.Client.progress G _ c.self.view_is c.args.place c.args.index MayRelease c.requires e c.index-component.ensures c.port.result c.port.ensures p c.in-Some.is in
    let header = c.in-Some-take_front.header in
    let n = header.held.number in
    let front : Some n ≡ slice_get (in_port (stocked i.stock).headers p) 0 = sym (ap (option_map number_of) c.in-Some-take_front.is) ∙ c.take_front.ensures.front in
    let now : stocked c.unmake_header-memory.new.self ≡ header_unmade n (front_left p.key (stocked i.stock)) = c.unmake_header-memory.ensures.stock ∙ ap (header_unmade n) c.take_front.ensures.stock in
    core_stocked g.C.Client.progress i.components.items i.registry i.stock i.book i.marked i.components.cap c.self.invariant c.unmake_header-memory.new.self (ap (λ (s : Stocked). s.ports) now ∙ front_left_ports p.key (stocked i.stock))
    (released_worlds g.C.Client.progress G c.args.place e c.args.index p n c.self.invariant.0.worlds H.at H.here front c.unmake_header-memory.new.self now)

pub returns-clause-change : goal.returns-clause-change
returns-clause-change g c =
    let i = c.self.inside in
    let e = c.index-component.result.now in
    let p = c.in-Some.port in
    let G : Entries (g.row.C.Denot) = gathered i.components.items i.stock i.book i.registry.given in
    let H = port_here g.C.Client.progress G _ c.self.view_is c.args.place c.args.index MayRelease c.requires e c.index-component.ensures c.port.result c.port.ensures p c.in-Some.is in
    let header = c.in-Some-take_front.header in
    let n = header.held.number in
    let front : Some n ≡ slice_get (in_port (stocked i.stock).headers p) 0 = sym (ap (option_map number_of) c.in-Some-take_front.is) ∙ c.take_front.ensures.front in
    let now : stocked c.unmake_header-memory.new.self ≡ header_unmade n (front_left p.key (stocked i.stock)) = c.unmake_header-memory.ensures.stock ∙ ap (header_unmade n) c.take_front.ensures.stock in
    rw (← c.self.view_is) (released_returns g.C.Client.progress G c.args.place e c.args.index p n c.self.invariant.0.worlds H.at H.here front c.unmake_header-memory.new.self now)

pub returns-clause-clients : goal.returns-clause-clients
returns-clause-clients g c = rw (← c.self.view_is) (λ k. refl)
