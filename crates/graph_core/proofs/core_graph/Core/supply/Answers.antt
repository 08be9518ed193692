use Rattle.il_machine.specs.World.{Component}
use Rattle.il_machine.specs.declared.port.Port.{Port}
use Rattle.std.proofs.Common.{◌≡◌, Bool, true, false, not, sym, ◌∙◌, ap, refl}
use Rattle.graph_core.specs.Supplying.{IsSuppliable}
use Rattle.il_machine.specs.Stock.{Stocked}
use Rattle.il_component.specs.Entries.{component_of}
use Rattle.graph_core.specs.Entries.{Entries, look_of}
use Rattle.graph_core.proofs.Supplied.{supplies_joined, numbers_left, room, supplied_returns, supplied_worlds}
use Rattle.graph_core.proofs.Found.{port_here, bounds, port_has}
use Rattle.graph_core.proofs.Cores.{core_stocked}
use Rattle.graph_core.proofs.Gathered.{gathered}
use Rattle.graph_core.proofs.core_graph.Core.supply.Goals as goal

abbrev MaySupply : {C : Type 0} → Entries C → Component → Port → Type 0
MaySupply g c p = IsSuppliable (look_of g) c p

pub index-component-requires : goal.index-component-requires
index-component-requires g c =
    let i = c.self.inside in
    bounds g.C.Client.progress (gathered i.components.items i.stock i.book i.registry.given) _ c.self.view_is c.args.place _ c.requires _ i.components.ok.0

pub unreachable-requires : goal.unreachable-requires
unreachable-requires g c =
    let i = c.self.inside in
    port_has g.C.Client.progress (gathered i.components.items i.stock i.book i.registry.given) _ c.self.view_is c.args.place c.args.index c.index-component.result.now c.index-component.ensures c.port.result c.port.ensures c.in_default.is _ c.requires

pub unreachable-requires-in_default-link : goal.unreachable-requires-in_default-link
unreachable-requires-in_default-link g c =
    let i = c.self.inside in
    let e = c.index-component.result.now in
    let p = c.in-Some.port in
    let G : Entries (g.row.C.Denot) = gathered i.components.items i.stock i.book i.registry.given in
    let H = port_here g.C.Client.progress G _ c.self.view_is c.args.place c.args.index MaySupply c.requires e c.index-component.ensures c.port.result c.port.ensures p c.in-Some.is in
    supplies_joined (look_of G) (component_of e) p H.has.may c.in_default-link.is

pub unreachable-requires-then-not-numbers_left : goal.unreachable-requires-then-not-numbers_left
unreachable-requires-then-not-numbers_left g c =
    let i = c.self.inside in
    let e = c.index-component.result.now in
    let p = c.in-Some.port in
    let G : Entries (g.row.C.Denot) = gathered i.components.items i.stock i.book i.registry.given in
    let H = port_here g.C.Client.progress G _ c.self.view_is c.args.place c.args.index MaySupply c.requires e c.index-component.ensures c.port.result c.port.ensures p c.in-Some.is in
    let left = c.numbers_left.ensures.left ∙ ap (λ (b : Bool). not b) (numbers_left g.C.Client.progress G c.args.place e c.args.index p c.in-Some-link.link c.self.invariant.0.worlds H.at H.here c.in-Some-link.is H.has.may) in
    let none = c.if-not-numbers_left.true in
    let z : true ≡ false = sym left ∙ none in
    cc

pub make_for_both-requires-clause-room : goal.make_for_both-requires-clause-room
make_for_both-requires-clause-room g c =
    let i = c.self.inside in
    let e = c.index-component.result.now in
    let p = c.in-Some.port in
    let G : Entries (g.row.C.Denot) = gathered i.components.items i.stock i.book i.registry.given in
    let H = port_here g.C.Client.progress G _ c.self.view_is c.args.place c.args.index MaySupply c.requires e c.index-component.ensures c.port.result c.port.ensures p c.in-Some.is in
    room g.C.Client.progress G c.args.place e c.args.index p c.in-Some-link.link c.self.invariant.0.worlds H.at H.here c.in-Some-link.is H.has.may c.self.invariant.0.ports

pub invariant_of-self : goal.invariant_of-self
invariant_of-self g c =
    let i = c.self.inside in
    let e = c.index-component.result.now in
    let p = c.in-Some.port in
    let G : Entries (g.row.C.Denot) = gathered i.components.items i.stock i.book i.registry.given in
    let H = port_here g.C.Client.progress G _ c.self.view_is c.args.place c.args.index MaySupply c.requires e c.index-component.ensures c.port.result c.port.ensures p c.in-Some.is in
    core_stocked g.C.Client.progress i.components.items i.registry i.stock i.book i.marked i.components.cap c.self.invariant c.make_for_both.new.stock (ap (λ (s : Stocked). s.ports) c.make_for_both.ensures.stock)
    (supplied_worlds g.C.Client.progress G c.args.place e c.args.index p c.in-Some-link.link c.self.invariant.0.worlds H.at H.here c.in-Some-link.is H.has.may c.make_for_both.ensures.new_number c.make_for_both.new.stock c.make_for_both.ensures.stock)

pub returns-clause-change : goal.returns-clause-change
returns-clause-change g c =
    let i = c.self.inside in
    let e = c.index-component.result.now in
    let p = c.in-Some.port in
    let G : Entries (g.row.C.Denot) = gathered i.components.items i.stock i.book i.registry.given in
    let H = port_here g.C.Client.progress G _ c.self.view_is c.args.place c.args.index MaySupply c.requires e c.index-component.ensures c.port.result c.port.ensures p c.in-Some.is in
    rw (← c.self.view_is) (supplied_returns g.C.Client.progress G c.args.place e c.args.index p c.in-Some-link.link c.self.invariant.0.worlds H.at H.here c.in-Some-link.is H.has.may c.make_for_both.ensures.new_number c.make_for_both.new.stock c.make_for_both.ensures.stock)

pub returns-clause-clients : goal.returns-clause-clients
returns-clause-clients g c = rw (← c.self.view_is) (λ k. refl)
