use Rattle.std.proofs.Common.{◌≡◌, ◌∙◌, ap}
use Rattle.il_machine.specs.World.{Component}
use Rattle.il_machine.specs.Parameters.{with_value}
use Rattle.il_component.specs.Entries.{component_of}
use Rattle.graph_core.specs.Entries.{Entries, look_of}
use Rattle.graph_core.proofs.Clients.{clients_set}
use Rattle.graph_core.proofs.SameParts.{part_as, part_value, handle_value}
use Rattle.graph_core.proofs.Replacing.{there, returns_changed}
use Rattle.graph_core.proofs.Setting.{settings_pass}
use Rattle.graph_core.proofs.Marking.{marked_set}
use Rattle.graph_core.proofs.Calming.{calm_as, calm_value}
use Rattle.graph_core.proofs.Found.{bounds, found}
use Rattle.graph_core.proofs.Gathered.{gathered}
use Rattle.graph_core.proofs.BookKept.{entered_room, entered_covered, entered_rows}
use Rattle.graph_core.proofs.Entering.{value_graph}
use Rattle.graph_core.proofs.core_graph.Core.set_value.Goals as goal

pub index_mut-component-requires : goal.index_mut-component-requires
index_mut-component-requires g c =
    let i = c.self.inside in
    bounds g.C.Client.progress (gathered i.components.items i.stock i.book i.registry.given) _ c.self.view_is c.args.place _ c.requires _ i.components.ok.0

pub set_value-requires : goal.set_value-requires
set_value-requires g c =
    let i = c.self.inside in
    let e = c.index_mut-component.result.now in
    let G : Entries (g.row.C.Denot) = gathered i.components.items i.stock i.book i.registry.given in
    let asked = rw (← c.self.view_is) at c.requires in
    let at = found g.C.Client.progress G _ c.self.view_is c.args.place _ c.requires e c.index_mut-component.ensures.value in
    let r = rw (there g.C.Client.progress G c.args.place e at) at asked in
    settings_pass c.args.config (look_of G).headers (component_of e) c.args.key c.args.value r

pub enter-requires-clause-room : goal.enter-requires-clause-room
enter-requires-clause-room g c =
    let i = c.self.inside in
    let e = c.index_mut-component.result.now in
    let G : Entries (g.row.C.Denot) = gathered i.components.items i.stock i.book i.registry.given in
    let at = found g.C.Client.progress G _ c.self.view_is c.args.place _ c.requires e c.index_mut-component.ensures.value in
    let d = c.set_value.new.self in
    let q : component_of d ≡ with_value c.args.key c.args.value (component_of e) = c.set_value.ensures.component in
    entered_room g.C.Client.progress G i.book c.self.invariant.0.worlds c.self.invariant.2 c.args.place e at d (ap (λ (x : Component). x.handle) q ∙ handle_value c.args.key c.args.value (component_of e)) c.self.invariant.0.few

pub enter-requires-clause-covered : goal.enter-requires-clause-covered
enter-requires-clause-covered g c =
    let i = c.self.inside in
    let e = c.index_mut-component.result.now in
    let G : Entries (g.row.C.Denot) = gathered i.components.items i.stock i.book i.registry.given in
    let asked = rw (← c.self.view_is) at c.requires in
    let at = found g.C.Client.progress G _ c.self.view_is c.args.place _ c.requires e c.index_mut-component.ensures.value in
    let r = rw (there g.C.Client.progress G c.args.place e at) at asked in
    let d = c.set_value.new.self in
    let q : component_of d ≡ with_value c.args.key c.args.value (component_of e) = c.set_value.ensures.component in
    entered_covered g.C.Client.progress G i.book c.self.invariant.0.worlds c.self.invariant.2 c.args.place e at d (ap (λ (x : Component). x.handle) q ∙ handle_value c.args.key c.args.value (component_of e)) i.stock i.book.numbered i.registry.given
    (value_graph g.C.Client.progress i.components.items i.registry i.stock i.book.units i.book.numbered i.components.cap c.args.place e d c.self.invariant.0 at c.set_value.ensures.kept c.args.key c.args.config c.args.value q r).worlds

pub invariant_of-self : goal.invariant_of-self
invariant_of-self g c =
    let i = c.self.inside in
    let e = c.index_mut-component.result.now in
    let G : Entries (g.row.C.Denot) = gathered i.components.items i.stock i.book i.registry.given in
    let asked = rw (← c.self.view_is) at c.requires in
    let at = found g.C.Client.progress G _ c.self.view_is c.args.place _ c.requires e c.index_mut-component.ensures.value in
    let r = rw (there g.C.Client.progress G c.args.place e at) at asked in
    let d = c.set_value.new.self in
    let q : component_of d ≡ with_value c.args.key c.args.value (component_of e) = c.set_value.ensures.component in
    rw c.enter.ensures (
      value_graph g.C.Client.progress i.components.items i.registry i.stock i.book.units i.book.numbered i.components.cap c.args.place e d c.self.invariant.0 at c.set_value.ensures.kept c.args.key c.args.config c.args.value q r,
      marked_set i.components.items i.marked c.args.place e d c.self.invariant.1 at (calm_as (component_of e) (component_of d) (with_value c.args.key c.args.value (component_of e)) q (calm_value c.args.key c.args.value (component_of e))),
      entered_rows g.C.Client.progress G i.book c.self.invariant.0.worlds c.self.invariant.2 c.args.place e at d (ap (λ (x : Component). x.handle) q ∙ handle_value c.args.key c.args.value (component_of e)),
    )

pub returns-clause-set : goal.returns-clause-set
returns-clause-set g c =
    let i = c.self.inside in
    let e = c.index_mut-component.result.now in
    let G : Entries (g.row.C.Denot) = gathered i.components.items i.stock i.book i.registry.given in
    let asked = rw (← c.self.view_is) at c.requires in
    let at = found g.C.Client.progress G _ c.self.view_is c.args.place _ c.requires e c.index_mut-component.ensures.value in
    let r = rw (there g.C.Client.progress G c.args.place e at) at asked in
    let d = c.set_value.new.self in
    let q : component_of d ≡ with_value c.args.key c.args.value (component_of e) = c.set_value.ensures.component in
    rw (← c.self.view_is, c.enter.ensures) (returns_changed g.C.Client.progress G c.args.place e d (λ w. with_value c.args.key c.args.value) at c.set_value.ensures.kept (part_as (component_of e) (component_of d) (with_value c.args.key c.args.value (component_of e)) q (part_value c.args.key c.args.value (component_of e))) (λ w s. q))

pub returns-clause-clients : goal.returns-clause-clients
returns-clause-clients g c =
    let i = c.self.inside in
    let e = c.index_mut-component.result.now in
    let G : Entries (g.row.C.Denot) = gathered i.components.items i.stock i.book i.registry.given in
    let asked = rw (← c.self.view_is) at c.requires in
    let at = found g.C.Client.progress G _ c.self.view_is c.args.place _ c.requires e c.index_mut-component.ensures.value in
    let r = rw (there g.C.Client.progress G c.args.place e at) at asked in
    let d = c.set_value.new.self in
    let q : component_of d ≡ with_value c.args.key c.args.value (component_of e) = c.set_value.ensures.component in
    rw (← c.self.view_is) (clients_set i.components.items c.args.place e d at (ap (λ (x : Component). x.handle) q ∙ handle_value c.args.key c.args.value (component_of e)) c.set_value.ensures.kept.client)
