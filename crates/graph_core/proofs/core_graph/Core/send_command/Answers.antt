use Rattle.std.proofs.Common.{◌∙◌, ap}
use Rattle.il_machine.specs.World.{Component}
use Rattle.il_machine.specs.Commands.{sent}
use Rattle.machine_laws.proofs.Sending.{change_sent}
use Rattle.graph_core.proofs.SameParts.{part_as, part_sent}
use Rattle.il_component.specs.Entries.{component_of}
use Rattle.graph_core.specs.Entries.{Entries, look_of}
use Rattle.graph_core.proofs.Clients.{clients_set}
use Rattle.graph_core.proofs.Replacing.{there, returns_changed}
use Rattle.graph_core.proofs.Accepted.{fits}
use Rattle.graph_core.proofs.Marking.{marked_set}
use Rattle.graph_core.proofs.Calming.{calm_as, calm_sent}
use Rattle.graph_core.proofs.Found.{bounds, found}
use Rattle.graph_core.proofs.Gathered.{gathered}
use Rattle.graph_core.proofs.BookKept.{entered_room, entered_covered, entered_rows}
use Rattle.graph_core.proofs.Entering.{sent_graph}
use Rattle.graph_core.proofs.core_graph.Core.send_command.Goals as goal

pub index_mut-component-requires : goal.index_mut-component-requires
index_mut-component-requires g c =
    let i = c.self.inside in
    bounds g.C.Client.progress (gathered i.components.items i.stock i.book i.registry.given) _ c.self.view_is c.args.place _ c.requires _ i.components.ok.0

pub send-requires : goal.send-requires
send-requires g c =
    let i = c.self.inside in
    let e = c.index_mut-component.result.now in
    let G : Entries (g.row.C.Denot) = gathered i.components.items i.stock i.book i.registry.given in
    let asked = rw (← c.self.view_is) at c.requires in
    let at = found g.C.Client.progress G _ c.self.view_is c.args.place _ c.requires e c.index_mut-component.ensures.value in
    let r = rw (there g.C.Client.progress G c.args.place e at) at asked in
    fits (look_of G) (component_of e) c.args.command r

pub enter-requires-clause-room : goal.enter-requires-clause-room
enter-requires-clause-room g c =
    let i = c.self.inside in
    let e = c.index_mut-component.result.now in
    let G : Entries (g.row.C.Denot) = gathered i.components.items i.stock i.book i.registry.given in
    let at = found g.C.Client.progress G _ c.self.view_is c.args.place _ c.requires e c.index_mut-component.ensures.value in
    entered_room g.C.Client.progress G i.book c.self.invariant.0.worlds c.self.invariant.2 c.args.place e at c.send.new.self (ap (λ (x : Component). x.handle) c.send.ensures.component ∙ (change_sent c.args.command (component_of e)).handle) c.self.invariant.0.few

pub enter-requires-clause-covered : goal.enter-requires-clause-covered
enter-requires-clause-covered g c =
    let i = c.self.inside in
    let e = c.index_mut-component.result.now in
    let G : Entries (g.row.C.Denot) = gathered i.components.items i.stock i.book i.registry.given in
    let asked = rw (← c.self.view_is) at c.requires in
    let at = found g.C.Client.progress G _ c.self.view_is c.args.place _ c.requires e c.index_mut-component.ensures.value in
    let r = rw (there g.C.Client.progress G c.args.place e at) at asked in
    entered_covered g.C.Client.progress G i.book c.self.invariant.0.worlds c.self.invariant.2 c.args.place e at c.send.new.self (ap (λ (x : Component). x.handle) c.send.ensures.component ∙ (change_sent c.args.command (component_of e)).handle) i.stock i.book.numbered i.registry.given
    (sent_graph g.C.Client.progress i.components.items i.registry i.stock i.book.units i.book.numbered i.components.cap c.args.place e c.send.new.self c.self.invariant.0 at c.send.ensures.kept c.args.command c.send.ensures.component r).worlds

pub invariant_of-self : goal.invariant_of-self
invariant_of-self g c =
    let i = c.self.inside in
    let e = c.index_mut-component.result.now in
    let G : Entries (g.row.C.Denot) = gathered i.components.items i.stock i.book i.registry.given in
    let asked = rw (← c.self.view_is) at c.requires in
    let at = found g.C.Client.progress G _ c.self.view_is c.args.place _ c.requires e c.index_mut-component.ensures.value in
    let r = rw (there g.C.Client.progress G c.args.place e at) at asked in
    rw c.enter.ensures (
      sent_graph g.C.Client.progress i.components.items i.registry i.stock i.book.units i.book.numbered i.components.cap c.args.place e c.send.new.self c.self.invariant.0 at c.send.ensures.kept c.args.command c.send.ensures.component r,
      marked_set i.components.items i.marked c.args.place e c.send.new.self c.self.invariant.1 at (calm_as (component_of e) (component_of c.send.new.self) (sent c.args.command (component_of e)) c.send.ensures.component (calm_sent c.args.command (component_of e))),
      entered_rows g.C.Client.progress G i.book c.self.invariant.0.worlds c.self.invariant.2 c.args.place e at c.send.new.self (ap (λ (x : Component). x.handle) c.send.ensures.component ∙ (change_sent c.args.command (component_of e)).handle),
    )

pub returns-clause-change : goal.returns-clause-change
returns-clause-change g c =
    let i = c.self.inside in
    let e = c.index_mut-component.result.now in
    let G : Entries (g.row.C.Denot) = gathered i.components.items i.stock i.book i.registry.given in
    let asked = rw (← c.self.view_is) at c.requires in
    let at = found g.C.Client.progress G _ c.self.view_is c.args.place _ c.requires e c.index_mut-component.ensures.value in
    let r = rw (there g.C.Client.progress G c.args.place e at) at asked in
    rw (← c.self.view_is, c.enter.ensures) (returns_changed g.C.Client.progress G c.args.place e c.send.new.self (λ w. sent c.args.command) at c.send.ensures.kept
    (part_as (component_of e) (component_of c.send.new.self) (sent c.args.command (component_of e)) c.send.ensures.component (part_sent c.args.command (component_of e))) (λ w s. c.send.ensures.component))

pub returns-clause-clients : goal.returns-clause-clients
returns-clause-clients g c =
    let i = c.self.inside in
    let e = c.index_mut-component.result.now in
    let G : Entries (g.row.C.Denot) = gathered i.components.items i.stock i.book i.registry.given in
    let at = found g.C.Client.progress G _ c.self.view_is c.args.place _ c.requires e c.index_mut-component.ensures.value in
    rw (← c.self.view_is) (clients_set i.components.items c.args.place e c.send.new.self at
    (ap (λ (x : Component). x.handle) c.send.ensures.component ∙ (change_sent c.args.command (component_of e)).handle) c.send.ensures.kept.client)
