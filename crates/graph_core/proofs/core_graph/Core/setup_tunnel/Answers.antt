use Rattle.std.proofs.Common.{◌≡◌, None, Some, slice_get, sym, ◌∙◌, ap, arith}
use Rattle.std.proofs.lemmas.Option.{slice_get_within}
use Rattle.il_machine.specs.World.{World, port_of}
use Rattle.il_machine.specs.Look.{look}
use Rattle.il_machine.specs.Sound.{Sound}
use Rattle.il_machine.specs.Tunnels.{both_joined, joined_to}
use Rattle.port_stock.specs.Kept.{stocked}
use Rattle.il_component.specs.Entries.{Entry, component_of}
use Rattle.graph_core.specs.Entries.{Entries, look_of}
use Rattle.graph_core.proofs.Cores.{Becomes, clients_both, core_both, steps_to_both}
use Rattle.graph_core.proofs.Found.{bounds, one_entry, read}
use Rattle.graph_core.proofs.Gathered.{gathered}
use Rattle.graph_core.proofs.Joining.{port_below}
use Rattle.graph_core.proofs.Replacing.{there}
use Rattle.graph_core.proofs.Setting.{all_ports}
use Rattle.graph_core.proofs.TunnelEnds.{MaySet, Meet, joined_becomes, joined_sound, meet_set, taker_read}
use Rattle.graph_core.proofs.core_graph.Core.setup_tunnel.Given.{Over}
use Rattle.graph_core.proofs.core_graph.Core.setup_tunnel.Goals.{After-widened-2}
use Rattle.graph_core.proofs.core_graph.Core.setup_tunnel.Goals as goal

pub index-requires : goal.index-requires
index-requires g c =
    let i = c.self.inside in
    bounds g.C.Client.progress (gathered i.components.items i.stock i.book i.registry.given) _ c.self.view_is c.args.giver _ c.requires _ i.components.ok.0

pub unreachable-requires : goal.unreachable-requires
unreachable-requires g c =
    let i = c.self.inside in
    let M = meet_set g.C.Client.progress (gathered i.components.items i.stock i.book i.registry.given) _ c.self.view_is c.args.giver c.args.output c.args.taker c.args.input c.requires c.index.result.now c.index.ensures in
    let z : Some M.first ≡ None = sym M.out ∙ (sym c.port.ensures ∙ c.in_default.is) in
    cc

pub index-requires-2 : goal.index-requires-2
index-requires-2 g c =
    let i = c.self.inside in
    let M = meet_set g.C.Client.progress (gathered i.components.items i.stock i.book i.registry.given) _ c.self.view_is c.args.giver c.args.output c.args.taker c.args.input c.requires c.index.result.now c.index.ensures in
    let b = M.within in
    let l = i.components.ok in
    omega arith

pub unreachable-requires-in_default-port : goal.unreachable-requires-in_default-port
unreachable-requires-in_default-port g c =
    let i = c.self.inside in
    let d = c.index-2.result.now in
    let M = meet_set g.C.Client.progress (gathered i.components.items i.stock i.book i.registry.given) _ c.self.view_is c.args.giver c.args.output c.args.taker c.args.input c.requires c.index.result.now c.index.ensures in
    let E = M.ends d (read i.components.items c.args.taker d M.within c.index-2.ensures) in
    let z : Some E.second ≡ None = sym E.inp ∙ (sym c.port-2.ensures ∙ c.in_default-port.is) in
    cc

pub index_mut-requires : goal.index_mut-requires
index_mut-requires g c =
    let i = c.self.inside in
    let M = meet_set g.C.Client.progress (gathered i.components.items i.stock i.book i.registry.given) _ c.self.view_is c.args.giver c.args.output c.args.taker c.args.input c.requires c.index.result.now c.index.ensures in
    let b = slice_get_within i.components.items c.args.giver c.index.result.now M.at in
    let l = i.components.ok in
    omega arith

pub join-requires : goal.join-requires
join-requires g c =
    let i = c.self.inside in
    let e = c.index_mut.result.now in
    let M = meet_set g.C.Client.progress (gathered i.components.items i.stock i.book i.registry.given) _ c.self.view_is c.args.giver c.args.output c.args.taker c.args.input c.requires e c.index_mut.ensures.value in
    port_below (component_of e) (stocked i.stock) c.args.output M.first (all_ports g.C.Client.progress i.components.items i.registry i.stock i.book.units i.book.numbered i.components.cap c.args.giver e c.self.invariant.0 M.at) M.out

pub index_mut-requires-2 : goal.index_mut-requires-2
index_mut-requires-2 g c =
    let i = c.self.inside in
    let M = meet_set g.C.Client.progress (gathered i.components.items i.stock i.book i.registry.given) _ c.self.view_is c.args.giver c.args.output c.args.taker c.args.input c.requires c.index.result.now c.index.ensures in
    let b = M.within in
    let l = i.components.ok in
    omega arith

pub join-requires-2 : goal.join-requires-2
join-requires-2 g c =
    let i = c.self.inside in
    let d = c.index_mut-2.result.now in
    let G : Entries (g.row.C.Denot) = gathered i.components.items i.stock i.book i.registry.given in
    let M = meet_set g.C.Client.progress G _ c.self.view_is c.args.giver c.args.output c.args.taker c.args.input c.requires c.index_mut.result.now c.index_mut.ensures.value in
    let at = taker_read G c.args.giver c.args.output c.args.taker c.args.input (MaySet c.args.output c.args.input G) c.index_mut.result.now c.join.new.self d M c.index_mut-2.ensures.value in
    let E = M.ends d at in
    port_below (component_of d) (stocked i.stock) c.args.input E.second (all_ports g.C.Client.progress i.components.items i.registry i.stock i.book.units i.book.numbered i.components.cap c.args.taker d c.self.invariant.0 at) E.inp

-- the two components, and what they become
module _ (g : Over) (c : After-widened-2 g) where
  abbrev before : Entries (g.row.C.Denot)
  before = gathered c.self.inside.components.items c.self.inside.stock c.self.inside.book c.self.inside.registry.given

  met : Meet before c.args.giver c.args.output c.args.taker c.args.input (MaySet c.args.output c.args.input before) c.index_mut.result.now
  met = meet_set g.C.Client.progress before _ c.self.view_is c.args.giver c.args.output c.args.taker c.args.input c.requires c.index_mut.result.now c.index_mut.ensures.value

  taker : slice_get before.entries c.args.taker ≡ Some c.index_mut-2.result.now
  taker = taker_read before c.args.giver c.args.output c.args.taker c.args.input (MaySet c.args.output c.args.input before) c.index_mut.result.now c.join.new.self c.index_mut-2.result.now met c.index_mut-2.ensures.value

  out : port_of (component_of c.index_mut.result.now) c.args.output ≡ Some c.in-Some.first
  out =
      let e = c.index.result.now in
      let same = one_entry before.entries c.args.giver c.index_mut.result.now e met.at (read before.entries c.args.giver e (slice_get_within before.entries c.args.giver c.index_mut.result.now met.at) c.index.ensures) in
      ap (λ (v : Entry (g.row.C.Denot)). port_of (component_of v) c.args.output) same ∙ (sym c.port.ensures ∙ c.in-Some.is)

  inp : port_of (component_of c.index_mut-2.result.now) c.args.input ≡ Some c.in-Some-port.second
  inp =
      let d = c.index-2.result.now in
      let same = one_entry before.entries c.args.taker c.index_mut-2.result.now d taker (read before.entries c.args.taker d met.within c.index-2.ensures) in
      ap (λ (v : Entry (g.row.C.Denot)). port_of (component_of v) c.args.input) same ∙ (sym c.port-2.ensures ∙ c.in-Some-port.is)

  giver_joined : Becomes c.index_mut.result.now c.join.new.self (joined_to c.in-Some-port.second c.agree_supplier-supplier.result c.in-Some.first (component_of c.index_mut.result.now))
  giver_joined = joined_becomes c.index_mut.result.now c.join.new.self c.args.output c.in-Some.first c.in-Some-port.second c.agree_supplier-supplier.result c.widened.result out c.widened.ensures c.join.ensures.component c.join.ensures.kept

  stays_sound : (w : World) → look w ≡ look_of before → Sound w
      → Sound (both_joined c.agree_supplier-supplier.result c.args.giver (component_of c.index_mut.result.now) c.in-Some.first c.args.taker (component_of c.index_mut-2.result.now) c.in-Some-port.second w)
  stays_sound w l S =
      joined_sound g.C.Client.progress before c.args.giver c.args.output c.args.taker c.args.input c.index_mut.result.now c.index_mut-2.result.now c.in-Some.first c.in-Some-port.second out inp taker w l S
      c.agree_supplier-supplier.result c.agree_supplier-supplier.ensures met

pub invariant_of-self : goal.invariant_of-self
invariant_of-self g c =
    let i = c.self.inside in
    let a = (goal.at.invariant_of-self g c).After-widened-2 in
    core_both g.C.Client.progress c.args.giver c.args.taker c.index_mut.result.now c.index_mut-2.result.now c.join.new.self c.join-2.new.self _ _ (giver_joined g a) (joined_becomes c.index_mut-2.result.now c.join-2.new.self c.args.input c.in-Some-port.second c.in-Some.first c.agree_supplier-supplier.result c.widened-2.result (inp g a) c.widened-2.ensures c.join-2.ensures.component c.join-2.ensures.kept)
    i.components.items i.registry i.stock i.book i.marked i.components.cap c.self.invariant (met g a).at (taker g a) (met g a).apart (stays_sound g a)

pub returns : goal.returns
returns g c =
    let p = g.C.Client.progress in
    let e = c.index_mut.result.now in
    let d = c.index_mut-2.result.now in
    let a = (goal.at.returns g c).After-widened-2 in
    let G = before g a in
    let M = met g a in
    let at = taker g a in
    let E = giver_joined g a in
    let D = joined_becomes c.index_mut-2.result.now c.join-2.new.self c.args.input c.in-Some-port.second c.in-Some.first c.agree_supplier-supplier.result c.widened-2.result (inp g a) c.widened-2.ensures c.join-2.ensures.component c.join-2.ensures.kept in record {
      change = rw (← c.self.view_is, there p G c.args.giver e M.at, there p G c.args.taker d at, out g a, inp g a)
          (c.agree_supplier-supplier.ensures, steps_to_both p c.args.giver c.args.taker e d c.join.new.self c.join-2.new.self _ _ E D G M.at at M.apart);
      clients = rw (← c.self.view_is) (clients_both p c.args.giver c.args.taker e d c.join.new.self c.join-2.new.self _ _ E D G M.at at M.apart);
    }
