use Rattle.std.proofs.Common.{◌≡◌, None, ap}
use Rattle.il_machine.specs.World.{Component}
use Rattle.il_machine.specs.Files.{attached}
use Rattle.il_component.specs.Entries.{component_of}
use Rattle.il_component.specs.Files.{offered}
use Rattle.graph_core.specs.Entries.{Entries}
use Rattle.graph_core.proofs.Clients.{clients_set}
use Rattle.graph_core.proofs.Replacing.{there}
use Rattle.graph_core.proofs.Filing.{attached_is, filed, steps_filed, graph_filed}
use Rattle.graph_core.proofs.Marking.{marked_set}
use Rattle.graph_core.proofs.Calming.{calm_same}
use Rattle.graph_core.proofs.Found.{bounds, found}
use Rattle.graph_core.proofs.Gathered.{gathered}
use Rattle.graph_core.proofs.BookKept.{kept_rows}
use Rattle.graph_core.specs.Booked.{row_for}
use Rattle.graph_core.proofs.core_graph.Core.attach.Goals as goal

pub index_mut-component-requires : goal.index_mut-component-requires
index_mut-component-requires g c =
    let i = c.self.inside in
    bounds g.C.Client.progress (gathered i.components.items i.stock i.book i.registry.given) _ c.self.view_is c.args.place _ c.requires.1 _ i.components.ok.0

pub invariant_of-self : goal.invariant_of-self
invariant_of-self g c =
    let i = c.self.inside in
    let p = g.C.Client.progress in
    let e = c.index_mut-component.result.now in
    let G : Entries (g.row.C.Denot) = gathered i.components.items i.stock i.book i.registry.given in
    let asked = rw (← c.self.view_is) at c.requires in
    let at = found p G _ c.self.view_is c.args.place _ c.requires.1 e c.index_mut-component.ensures.value in
    let r = rw (there p G c.args.place e at) at asked.1 in
    let q : component_of c.attach.new.self ≡ filed (attached (offered c.args.file asked.0 None)) (component_of e) = rw (attached_is c.args.file asked.0 None) c.attach.ensures.component in (
      graph_filed p i.components.items i.registry i.stock i.book.units i.book.numbered i.components.cap c.args.place e c.attach.new.self (offered c.args.file asked.0 None) c.self.invariant.0 at c.attach.ensures.kept q r,
      marked_set i.components.items i.marked c.args.place e c.attach.new.self c.self.invariant.1 at (calm_same (component_of e) (component_of c.attach.new.self) (ap (λ (x : Component). x.ports) q) (ap (λ (x : Component). x.pending) q)),
      kept_rows i.book i.components.items c.args.place e c.attach.new.self c.self.invariant.2 at (ap row_for q),
    )

pub returns-clause-change : goal.returns-clause-change
returns-clause-change g c =
    let i = c.self.inside in
    let p = g.C.Client.progress in
    let e = c.index_mut-component.result.now in
    let G : Entries (g.row.C.Denot) = gathered i.components.items i.stock i.book i.registry.given in
    let at = found p G _ c.self.view_is c.args.place _ c.requires.1 e c.index_mut-component.ensures.value in
    λ size known.
    let q : component_of c.attach.new.self ≡ filed (attached (offered c.args.file size known)) (component_of e) = rw (attached_is c.args.file size known) c.attach.ensures.component in
    rw (← c.self.view_is, there p G c.args.place e at) (steps_filed p G c.args.place e c.attach.new.self (offered c.args.file size known) at c.attach.ensures.kept q)

pub returns-clause-clients : goal.returns-clause-clients
returns-clause-clients g c =
    let i = c.self.inside in
    let p = g.C.Client.progress in
    let e = c.index_mut-component.result.now in
    let G : Entries (g.row.C.Denot) = gathered i.components.items i.stock i.book i.registry.given in
    let at = found p G _ c.self.view_is c.args.place _ c.requires.1 e c.index_mut-component.ensures.value in
    rw (← c.self.view_is) (clients_set i.components.items c.args.place e c.attach.new.self at (ap (λ (x : Component). x.handle) c.attach.ensures.component) c.attach.ensures.kept.client)
