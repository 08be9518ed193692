use Rattle.std.proofs.Common.{◌≡◌, None, map, refl, ap}
use Rattle.il_machine.specs.World.{Component, Work, number_of, ports_of}
use Rattle.il_machine.specs.Claims.{claim_idle, work_of}
use Rattle.port_stock.specs.Kept.{stocked}
use Rattle.il_component.specs.Entries.{component_of}
use Rattle.il_component.specs.Works.{work_with}
use Rattle.graph_core.specs.Claiming.{gives_to}
use Rattle.graph_core.specs.Entries.{Entries, look_of}
use Rattle.graph_core.proofs.Claimed.{claimed_ports, claimed_returns, claimed_worlds, carried_there, has_room, working}
use Rattle.graph_core.proofs.Clients.{clients_set}
use Rattle.graph_core.proofs.Cores.{core_with}
use Rattle.graph_core.proofs.Found.{IsHere, bounds, here}
use Rattle.graph_core.proofs.Gathered.{gathered}
use Rattle.graph_core.proofs.Lent.{fronts_lent}
use Rattle.graph_core.proofs.Picked.{fronts_are, work_is}
use Rattle.graph_core.proofs.Replacing.{there}
use Rattle.graph_core.proofs.Setting.{all_ports}
use Rattle.graph_core.proofs.core_graph.Core.claim.Given.{Over}
use Rattle.graph_core.proofs.core_graph.Core.claim.Goals.{After-numbers_of}
use Rattle.graph_core.proofs.core_graph.Core.claim.Goals as goal

pub index_mut-component-requires : goal.index_mut-component-requires
index_mut-component-requires g c =
    let i = c.self.inside in
    bounds g.C.Client.progress (gathered i.components.items i.stock i.book i.registry.given) _ c.self.view_is c.args.place _ c.requires.may _ i.components.ok.0

abbrev MayGive : {C : Type 0} → Entries C → Component → Type 0
MayGive g c = claim_idle (look_of g) c ≡ None

pub must_announce-announces-requires : goal.must_announce-announces-requires
must_announce-announces-requires g c =
    let i = c.self.inside in
    let e = c.index_mut-component.result.now in
    let H = here g.C.Client.progress (gathered i.components.items i.stock i.book i.registry.given) _ c.self.view_is c.args.place MayGive c.requires.may e c.index_mut-component.ensures.value in
    all_ports g.C.Client.progress i.components.items i.registry i.stock i.book.units i.book.numbered i.components.cap c.args.place e c.self.invariant.0 H.at

pub pick_up-requires-clause-ports : goal.pick_up-requires-clause-ports
pick_up-requires-clause-ports g c =
    let i = c.self.inside in
    let e = c.index_mut-component.result.now in
    let H = here g.C.Client.progress (gathered i.components.items i.stock i.book i.registry.given) _ c.self.view_is c.args.place MayGive c.requires.may e c.index_mut-component.ensures.value in
    all_ports g.C.Client.progress i.components.items i.registry i.stock i.book.units i.book.numbered i.components.cap c.args.place e c.self.invariant.0 H.at

pub give_work-requires-clause-announces : goal.give_work-requires-clause-announces
give_work-requires-clause-announces g c = c.must_announce-announces.ensures

-- the work has the fronts of the ports that give one
picks : (g : Over) (c : After-numbers_of g) → work_with c.numbers_of.result (component_of c.index_mut-component.result.now) ≡ work_of (stocked c.self.inside.stock).headers (component_of c.index_mut-component.result.now)
picks g c = work_is (component_of c.index_mut-component.result.now) (stocked c.self.inside.stock) c.numbers_of.result c.pick_up.new.headers c.must_announce-announces.result c.numbers_of.ensures c.must_announce-announces.ensures c.pick_up.ensures.fronts

found : (g : Over) (c : After-numbers_of g) → IsHere (gathered c.self.inside.components.items c.self.inside.stock c.self.inside.book c.self.inside.registry.given) c.args.place MayGive c.index_mut-component.result.now
found g c =
    let i = c.self.inside in
    here g.C.Client.progress (gathered i.components.items i.stock i.book i.registry.given) _ c.self.view_is c.args.place MayGive c.requires.may c.index_mut-component.result.now c.index_mut-component.ensures.value

pub give_work-requires-clause-fits : goal.give_work-requires-clause-fits
give_work-requires-clause-fits g c =
    let i = c.self.inside in
    let k = component_of c.index_mut-component.result.now in
    has_room (look_of (gathered i.components.items i.stock i.book i.registry.given)) k (work_with c.numbers_of.result k) (found g c).has (ap (λ (x : Work). x.headers) (picks g c))

pub invariant_of-self : goal.invariant_of-self
invariant_of-self g c =
    let i = c.self.inside in
    let p = g.C.Client.progress in
    let e = c.index_mut-component.result.now in
    let G : Entries (g.row.C.Denot) = gathered i.components.items i.stock i.book i.registry.given in
    let H = found g (goal.at.invariant_of-self g c).After-numbers_of in
    let k = component_of e in
    let a = c.must_announce-announces.result in
    let d = c.give_work.new.self in
    let after = c.pick_up.new.stock in
    let work : Work = work_with c.numbers_of.result k in
    let picked = picks g (goal.at.invariant_of-self g c).After-numbers_of in
    let tells = c.must_announce-announces.ensures in
    core_with p i.components.items i.registry i.stock i.book i.marked i.components.cap c.self.invariant after c.args.place e d (working work k) H.at c.give_work.ensures.component refl refl refl refl
    (claimed_ports p G c.args.place e d after work a c.self.invariant.0.worlds H.at c.give_work.ensures.component c.give_work.ensures.kept picked tells c.pick_up.ensures.stock)
    (claimed_worlds p G c.args.place e d after work a c.self.invariant.0.worlds H.at c.give_work.ensures.component c.give_work.ensures.kept picked tells c.pick_up.ensures.stock H.has)

pub returns : goal.returns
returns g c =
    let i = c.self.inside in
    let p = g.C.Client.progress in
    let e = c.index_mut-component.result.now in
    let G : Entries (g.row.C.Denot) = gathered i.components.items i.stock i.book i.registry.given in
    let H = found g (goal.at.returns g c).After-numbers_of in
    let k = component_of e in
    let a = c.must_announce-announces.result in
    let d = c.give_work.new.self in
    let after = c.pick_up.new.stock in
    let picked = picks g (goal.at.returns g c).After-numbers_of in
    let tells = c.must_announce-announces.ensures in
    let fronts = fronts_are k (stocked i.stock) c.pick_up.new.headers a tells c.pick_up.ensures.fronts in record {
      change = rw (← c.self.view_is) (claimed_returns p G c.args.place e d after (work_with c.numbers_of.result k) a c.self.invariant.0.worlds H.at c.give_work.ensures.component c.give_work.ensures.kept picked tells c.pick_up.ensures.stock);
      carried = rw (← c.self.view_is, there p G c.args.place e H.at) (carried_there p G k c.pick_up.new.headers fronts);
      headers = rw (← c.self.view_is, there p G c.args.place e H.at) fronts;
      lent = rw (← c.self.view_is, there p G c.args.place e H.at) (fronts_lent (number_of k) (map (gives_to a k) (ports_of k)) c.pick_up.new.headers (stocked i.stock) (stocked after) _ c.pick_up.ensures.stock refl refl c.pick_up.ensures.fronts);
      clients = rw (← c.self.view_is) (clients_set i.components.items c.args.place e d H.at (ap (λ (x : Component). x.handle) c.give_work.ensures.component) c.give_work.ensures.kept.client);
    }
