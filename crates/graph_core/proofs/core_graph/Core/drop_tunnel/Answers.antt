use Rattle.std.proofs.Common.{arith}
use Rattle.port_stock.specs.Kept.{stocked}
use Rattle.il_component.specs.Entries.{component_of}
use Rattle.graph_core.specs.Entries.{Entries}
use Rattle.graph_core.proofs.Cores.{clients_both, core_both, steps_to_both}
use Rattle.graph_core.proofs.Found.{bounds}
use Rattle.graph_core.proofs.Gathered.{gathered}
use Rattle.graph_core.proofs.Joining.{port_below}
use Rattle.graph_core.proofs.Replacing.{there}
use Rattle.graph_core.proofs.Setting.{all_ports}
use Rattle.graph_core.proofs.TunnelEnds.{MayDrop, meet_drop, parted_becomes, parted_sound, taker_read}
use Rattle.graph_core.proofs.core_graph.Core.drop_tunnel.Goals as goal

pub index_mut-requires : goal.index_mut-requires
index_mut-requires g c =
    let i = c.self.inside in
    bounds g.C.Client.progress (gathered i.components.items i.stock i.book i.registry.given) _ c.self.view_is c.args.giver _ c.requires _ i.components.ok.0

pub part-requires : goal.part-requires
part-requires g c =
    let i = c.self.inside in
    let e = c.index_mut.result.now in
    let M = meet_drop g.C.Client.progress (gathered i.components.items i.stock i.book i.registry.given) _ c.self.view_is c.args.giver c.args.output c.args.taker c.args.input c.self.invariant.0.worlds c.requires c.index_mut.result.now c.index_mut.ensures.value in
    port_below (component_of e) (stocked i.stock) c.args.output M.first (all_ports g.C.Client.progress i.components.items i.registry i.stock i.book.units i.book.numbered i.components.cap c.args.giver e c.self.invariant.0 M.at) M.out

pub index_mut-requires-2 : goal.index_mut-requires-2
index_mut-requires-2 g c =
    let i = c.self.inside in
    let b = (meet_drop g.C.Client.progress (gathered i.components.items i.stock i.book i.registry.given) _ c.self.view_is c.args.giver c.args.output c.args.taker c.args.input c.self.invariant.0.worlds c.requires c.index_mut.result.now c.index_mut.ensures.value).within in
    let l = i.components.ok in
    omega arith

pub part-requires-2 : goal.part-requires-2
part-requires-2 g c =
    let i = c.self.inside in
    let p = g.C.Client.progress in
    let e = c.index_mut.result.now in
    let d = c.index_mut-2.result.now in
    let G : Entries (g.row.C.Denot) = gathered i.components.items i.stock i.book i.registry.given in
    let M = meet_drop p G _ c.self.view_is c.args.giver c.args.output c.args.taker c.args.input c.self.invariant.0.worlds c.requires e c.index_mut.ensures.value in
    let at = taker_read G c.args.giver c.args.output c.args.taker c.args.input (MayDrop c.args.output c.args.input G) e c.part.new.self d M c.index_mut-2.ensures.value in
    let E = M.ends d at in
    port_below (component_of d) (stocked i.stock) c.args.input E.second (all_ports p i.components.items i.registry i.stock i.book.units i.book.numbered i.components.cap c.args.taker d c.self.invariant.0 at) E.inp

pub invariant_of-self : goal.invariant_of-self
invariant_of-self g c =
    let i = c.self.inside in
    let p = g.C.Client.progress in
    let e = c.index_mut.result.now in
    let d = c.index_mut-2.result.now in
    let G : Entries (g.row.C.Denot) = gathered i.components.items i.stock i.book i.registry.given in
    let M = meet_drop p G _ c.self.view_is c.args.giver c.args.output c.args.taker c.args.input c.self.invariant.0.worlds c.requires e c.index_mut.ensures.value in
    let at = taker_read G c.args.giver c.args.output c.args.taker c.args.input (MayDrop c.args.output c.args.input G) e c.part.new.self d M c.index_mut-2.ensures.value in
    let E = M.ends d at in
    let X = parted_becomes e c.part.new.self c.args.output E.first E.out c.part.ensures.component c.part.ensures.kept in
    let Y = parted_becomes d c.part-2.new.self c.args.input E.second E.inp c.part-2.ensures.component c.part-2.ensures.kept in
    core_both p c.args.giver c.args.taker e d c.part.new.self c.part-2.new.self _ _ X Y i.components.items i.registry i.stock i.book i.marked i.components.cap c.self.invariant M.at at M.apart
    (λ w l S. parted_sound p G c.args.giver c.args.output c.args.taker c.args.input e d E.first E.second E.out E.inp at w l S M)

pub returns : goal.returns
returns g c =
    let i = c.self.inside in
    let p = g.C.Client.progress in
    let e = c.index_mut.result.now in
    let d = c.index_mut-2.result.now in
    let G : Entries (g.row.C.Denot) = gathered i.components.items i.stock i.book i.registry.given in
    let M = meet_drop p G _ c.self.view_is c.args.giver c.args.output c.args.taker c.args.input c.self.invariant.0.worlds c.requires e c.index_mut.ensures.value in
    let at = taker_read G c.args.giver c.args.output c.args.taker c.args.input (MayDrop c.args.output c.args.input G) e c.part.new.self d M c.index_mut-2.ensures.value in
    let E = M.ends d at in
    let X = parted_becomes e c.part.new.self c.args.output E.first E.out c.part.ensures.component c.part.ensures.kept in
    let Y = parted_becomes d c.part-2.new.self c.args.input E.second E.inp c.part-2.ensures.component c.part-2.ensures.kept in record {
      change = rw (← c.self.view_is, there p G c.args.giver e M.at, there p G c.args.taker d at, E.out, E.inp) (steps_to_both p c.args.giver c.args.taker e d c.part.new.self c.part-2.new.self _ _ X Y G M.at at M.apart);
      clients = rw (← c.self.view_is) (clients_both p c.args.giver c.args.taker e d c.part.new.self c.part-2.new.self _ _ X Y G M.at at M.apart);
    }
