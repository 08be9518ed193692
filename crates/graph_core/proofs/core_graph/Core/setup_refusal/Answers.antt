use Rattle.graph_core.specs.Entries.{Entries}
use Rattle.graph_core.proofs.Found.{bounds_of, found_of}
use Rattle.graph_core.proofs.Gathered.{gathered}
use Rattle.graph_core.proofs.Replacing.{there}
use Rattle.graph_core.proofs.Setting.{all_ports}
use Rattle.graph_core.proofs.core_graph.Core.setup_refusal.Goals as goal

pub index-requires : goal.index-requires
index-requires g c =
    let i = c.self.inside in
    bounds_of g.C.Client.progress (gathered i.components.items i.stock i.book i.registry.given) _ c.self.view_is c.args.giver _ i.components.ok.0 c.requires.giver

pub index-requires-2 : goal.index-requires-2
index-requires-2 g c =
    let i = c.self.inside in
    bounds_of g.C.Client.progress (gathered i.components.items i.stock i.book i.registry.given) _ c.self.view_is c.args.taker _ i.components.ok.0 c.requires.taker

pub setup_refusal-requires : goal.setup_refusal-requires
setup_refusal-requires g c =
    let i = c.self.inside in
    let p = g.C.Client.progress in
    let G : Entries (g.row.C.Denot) = gathered i.components.items i.stock i.book i.registry.given in
    let at = found_of p G _ c.self.view_is c.args.giver c.requires.giver c.index.result.now c.index.ensures in
    let at' = found_of p G _ c.self.view_is c.args.taker c.requires.taker c.index-2.result.now c.index-2.ensures in record {
      giver = all_ports p i.components.items i.registry i.stock i.book.units i.book.numbered i.components.cap c.args.giver c.index.result.now c.self.invariant.0 at;
      taker = all_ports p i.components.items i.registry i.stock i.book.units i.book.numbered i.components.cap c.args.taker c.index-2.result.now c.self.invariant.0 at';
    }

pub returns : goal.returns
returns g c =
    let i = c.self.inside in
    let p = g.C.Client.progress in
    let G : Entries (g.row.C.Denot) = gathered i.components.items i.stock i.book i.registry.given in
    let at = found_of p G _ c.self.view_is c.args.giver c.requires.giver c.index.result.now c.index.ensures in
    let at' = found_of p G _ c.self.view_is c.args.taker c.requires.taker c.index-2.result.now c.index-2.ensures in
    rw (← c.self.view_is, there p G c.args.giver c.index.result.now at, there p G c.args.taker c.index-2.result.now at') c.setup_refusal.ensures
