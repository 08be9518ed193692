use Rattle.il_machine.specs.World.{Component}
use Rattle.il_machine.specs.declared.port.Port.{Port}
use Rattle.std.proofs.Common.{Option, List, ℕ}
use Rattle.std.proofs.Common.{◌≡◌, Bool, true, false, not, refl, sym, ◌∙◌, ap}
use Rattle.il_machine.specs.Stock.{Stocked}
use Rattle.port_stock.specs.Kept.{stocked}
use Rattle.graph_core.specs.Changes.{IsMakable}
use Rattle.graph_core.specs.Entries.{Entries, look_of}
use Rattle.graph_core.proofs.Replacing.{there}
use Rattle.graph_core.proofs.Stepping.{port_kept}
use Rattle.graph_core.proofs.Handing.{block_for, few_made, least_size, most_size, made_returns, made_worlds}
use Rattle.graph_core.proofs.Found.{port_here, bounds, port_has}
use Rattle.graph_core.proofs.Cores.{core_stocked}
use Rattle.graph_core.proofs.Gathered.{gathered}
use Rattle.graph_core.proofs.core_graph.Core.make_header.Goals as goal

abbrev MayMake : {C : Type 0} → Option (List ℕ) → Entries C → Component → Port → Type 0
MayMake memory g c p = IsMakable (look_of g) c p memory

pub index-component-requires : goal.index-component-requires
index-component-requires g c =
    let i = c.self.inside in
    bounds g.C.Client.progress (gathered i.components.items i.stock i.book i.registry.given) _ c.self.view_is c.args.place _ c.requires _ i.components.ok.0

pub unreachable-requires : goal.unreachable-requires
unreachable-requires g c =
    let i = c.self.inside in
    port_has g.C.Client.progress (gathered i.components.items i.stock i.book i.registry.given) _ c.self.view_is c.args.place c.args.index c.index-component.result.now c.index-component.ensures c.port.result c.port.ensures c.in_default.is _ c.requires

pub make_header-requires : goal.make_header-requires
make_header-requires g c =
    let i = c.self.inside in
    let q = g.C.Client.progress in
    let e = c.index-component.result.now in
    let p = c.in-Some.port in
    let G : Entries (g.row.C.Denot) = gathered i.components.items i.stock i.book i.registry.given in
    let W = c.self.invariant.0.worlds in
    let H = port_here q G _ c.self.view_is c.args.place c.args.index (MayMake c.args.memory) c.requires e c.index-component.ensures c.port.result c.port.ensures p c.in-Some.is in record {
      port = port_kept q i.components.items (stocked i.stock) i.registry.given c.args.place c.args.index e p c.self.invariant.0.ports H.at H.here;
      peer = tt;
      home = refl;
      some = least_size q G c.args.place e c.args.index p W H.at H.here c.args.memory H.has;
      limit = most_size q G c.args.place e c.args.index p W H.at H.here c.args.memory H.has;
      fits = H.has.fits;
      block = block_for c.args.memory (stocked i.stock) H.has.block;
      few = few_made q G c.args.place e c.args.index p W H.at H.here c.args.memory H.has;
      few_of_peer = tt;
      numbers = c.numbers_left.ensures.below c.if-not-numbers_left.false;
    }

pub invariant_of-self : goal.invariant_of-self
invariant_of-self g c =
    let i = c.self.inside in
    let e = c.index-component.result.now in
    let p = c.in-Some.port in
    let G : Entries (g.row.C.Denot) = gathered i.components.items i.stock i.book i.registry.given in
    let H = port_here g.C.Client.progress G _ c.self.view_is c.args.place c.args.index (MayMake c.args.memory) c.requires e c.index-component.ensures c.port.result c.port.ensures p c.in-Some.is in
    core_stocked g.C.Client.progress i.components.items i.registry i.stock i.book i.marked i.components.cap c.self.invariant c.make_header.new.self (ap (λ (s : Stocked). s.ports) c.make_header.ensures.stock)
    (made_worlds g.C.Client.progress G c.args.place e c.args.index p c.self.invariant.0.worlds H.at H.here c.args.memory H.has c.make_header.ensures.new_number c.make_header.new.self c.make_header.ensures.stock)

pub returns-clause-header : goal.returns-clause-header
returns-clause-header g c =
    let i = c.self.inside in
    let e = c.index-component.result.now in
    let p = c.in-Some.port in
    let G : Entries (g.row.C.Denot) = gathered i.components.items i.stock i.book i.registry.given in
    let H = port_here g.C.Client.progress G _ c.self.view_is c.args.place c.args.index (MayMake c.args.memory) c.requires e c.index-component.ensures c.port.result c.port.ensures p c.in-Some.is in
    rw (← c.self.view_is, there g.C.Client.progress G c.args.place e H.at, H.here) c.make_header.ensures.header

pub returns-clause-change : goal.returns-clause-change
returns-clause-change g c =
    let i = c.self.inside in
    let e = c.index-component.result.now in
    let p = c.in-Some.port in
    let G : Entries (g.row.C.Denot) = gathered i.components.items i.stock i.book i.registry.given in
    let H = port_here g.C.Client.progress G _ c.self.view_is c.args.place c.args.index (MayMake c.args.memory) c.requires e c.index-component.ensures c.port.result c.port.ensures p c.in-Some.is in
    rw (← c.self.view_is) (made_returns g.C.Client.progress G c.args.place e c.args.index p c.self.invariant.0.worlds H.at H.here c.args.memory H.has c.make_header.ensures.new_number c.make_header.new.self c.make_header.ensures.stock)

pub unreachable-requires-then-not-numbers_left : goal.unreachable-requires-then-not-numbers_left
unreachable-requires-then-not-numbers_left g c =
    let i = c.self.inside in
    let e = c.index-component.result.now in
    let p = c.in-Some.port in
    let G : Entries (g.row.C.Denot) = gathered i.components.items i.stock i.book i.registry.given in
    let H = port_here g.C.Client.progress G _ c.self.view_is c.args.place c.args.index (MayMake c.args.memory) c.requires e c.index-component.ensures c.port.result c.port.ensures p c.in-Some.is in
    let left = c.numbers_left.ensures.left ∙ ap (λ (b : Bool). not b) H.has.numbers in
    let none = c.if-not-numbers_left.true in
    let z : true ≡ false = sym left ∙ none in
    cc

pub returns-clause-clients : goal.returns-clause-clients
returns-clause-clients g c = rw (← c.self.view_is) (λ k. refl)
