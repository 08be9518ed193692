use Rattle.std.proofs.Common.{◌<◌, length, ◌∙◌, ap, arith}
use Rattle.il_machine.specs.World.{Component}
use Rattle.il_machine.specs.Units.{victim, preempted_units}
use Rattle.il_machine.specs.Sound.{IsSound}
use Rattle.machine_laws.proofs.Granting.{sound_preempted, change_preempted}
use Rattle.il_component.specs.Entries.{component_of}
use Rattle.graph_core.specs.Entries.{Entries, look_of}
use Rattle.graph_core.proofs.Clients.{clients_set}
use Rattle.graph_core.proofs.Granting.{may_lose, no_preempt, part_preempted, units_changed, units_there}
use Rattle.graph_core.proofs.Replacing.{there, component_sound}
use Rattle.graph_core.proofs.SameParts.{part_as}
use Rattle.graph_core.proofs.Marking.{marked_more}
use Rattle.graph_core.proofs.Found.{bounds_of, chosen}
use Rattle.graph_core.proofs.Gathered.{gathered}
use Rattle.graph_core.proofs.BookKept.{entered_room, entered_covered, entered_rows}
use Rattle.graph_core.proofs.Entering.{preempted_graph}
use Rattle.graph_core.proofs.core_graph.Core.preempt.Goals as goal

pub unreachable-requires : goal.unreachable-requires
unreachable-requires g c = no_preempt (look_of c.args.self.now) c.requires c.in_default.ensures.victim

pub index_mut-component-requires : goal.index_mut-component-requires
index_mut-component-requires g c =
    let i = c.self.inside in
    bounds_of g.C.Client.progress (gathered i.components.items i.stock i.book i.registry.given) _ c.self.view_is c.in-Some.place _ i.components.ok.0 c.in-Some.ensures.within

pub preempt-requires : goal.preempt-requires
preempt-requires g c =
    let i = c.self.inside in
    let es = i.components.items in
    let e = c.index_mut-component.result.now in
    let G : Entries (g.row.C.Denot) = gathered es i.stock i.book i.registry.given in
    let X = chosen g.C.Client.progress G _ c.self.view_is c.in-Some.place victim c.in-Some.ensures.victim c.in-Some.ensures.within e c.index_mut-component.ensures.value in
    let M = may_lose (look_of G) (component_of e) (rw (← c.self.view_is) at c.requires) X.first in
    let S : IsSound (component_of e) = component_sound g.C.Client.progress G c.in-Some.place (component_of e) c.self.invariant.0.worlds (there g.C.Client.progress G c.in-Some.place e X.at) in
    (sound_preempted (c.self.invariant.0.worlds).world.waits (component_of e) S (units_there g.C.Client.progress G c.in-Some.place e c.self.invariant.0.worlds X.at) M.victim M.room).room

pub insert-requires : goal.insert-requires
insert-requires g c =
    let i = c.self.inside in
    let es = i.components.items in
    let e = c.index_mut-component.result.now in
    let G : Entries (g.row.C.Denot) = gathered es i.stock i.book i.registry.given in
    let within : c.in-Some.place < length es = rw (← c.self.view_is) at c.in-Some.ensures.within in
    let few = c.self.invariant.0.few in
    omega arith

pub enter-requires-clause-room : goal.enter-requires-clause-room
enter-requires-clause-room g c =
    let i = c.self.inside in
    let es = i.components.items in
    let e = c.index_mut-component.result.now in
    let G : Entries (g.row.C.Denot) = gathered es i.stock i.book i.registry.given in
    let X = chosen g.C.Client.progress G _ c.self.view_is c.in-Some.place victim c.in-Some.ensures.victim c.in-Some.ensures.within e c.index_mut-component.ensures.value in
    let q = c.preempt.ensures.component in
    entered_room g.C.Client.progress G i.book c.self.invariant.0.worlds c.self.invariant.2 c.in-Some.place e X.at c.preempt.new.self (ap (λ (x : Component). x.handle) q ∙ (change_preempted (component_of e)).handle) c.self.invariant.0.few

pub enter-requires-clause-covered : goal.enter-requires-clause-covered
enter-requires-clause-covered g c =
    let i = c.self.inside in
    let es = i.components.items in
    let e = c.index_mut-component.result.now in
    let G : Entries (g.row.C.Denot) = gathered es i.stock i.book i.registry.given in
    let X = chosen g.C.Client.progress G _ c.self.view_is c.in-Some.place victim c.in-Some.ensures.victim c.in-Some.ensures.within e c.index_mut-component.ensures.value in
    let M = may_lose (look_of G) (component_of e) (rw (← c.self.view_is) at c.requires) X.first in
    let q = c.preempt.ensures.component in
    entered_covered g.C.Client.progress G i.book c.self.invariant.0.worlds c.self.invariant.2 c.in-Some.place e X.at c.preempt.new.self (ap (λ (x : Component). x.handle) q ∙ (change_preempted (component_of e)).handle) i.stock i.book.numbered i.registry.given
    (preempted_graph g.C.Client.progress es i.registry i.stock i.book.units i.book.numbered i.components.cap c.in-Some.place e c.preempt.new.self c.self.invariant.0 X.at c.preempt.ensures.kept q M).worlds

pub invariant_of-self : goal.invariant_of-self
invariant_of-self g c =
    let i = c.self.inside in
    let es = i.components.items in
    let e = c.index_mut-component.result.now in
    let G : Entries (g.row.C.Denot) = gathered es i.stock i.book i.registry.given in
    let X = chosen g.C.Client.progress G _ c.self.view_is c.in-Some.place victim c.in-Some.ensures.victim c.in-Some.ensures.within e c.index_mut-component.ensures.value in
    let M = may_lose (look_of G) (component_of e) (rw (← c.self.view_is) at c.requires) X.first in
    let q = c.preempt.ensures.component in
    rw c.enter.ensures (
      preempted_graph g.C.Client.progress es i.registry i.stock i.book.units i.book.numbered i.components.cap c.in-Some.place e c.preempt.new.self c.self.invariant.0 X.at c.preempt.ensures.kept q M,
      marked_more es i.marked c.in-Some.place e c.preempt.new.self c.self.invariant.1 X.at c.insert.new.self c.insert.ensures,
      entered_rows g.C.Client.progress G i.book c.self.invariant.0.worlds c.self.invariant.2 c.in-Some.place e X.at c.preempt.new.self (ap (λ (x : Component). x.handle) q ∙ (change_preempted (component_of e)).handle),
    )

pub returns-clause-change : goal.returns-clause-change
returns-clause-change g c =
    let i = c.self.inside in
    let es = i.components.items in
    let e = c.index_mut-component.result.now in
    let G : Entries (g.row.C.Denot) = gathered es i.stock i.book i.registry.given in
    let X = chosen g.C.Client.progress G _ c.self.view_is c.in-Some.place victim c.in-Some.ensures.victim c.in-Some.ensures.within e c.index_mut-component.ensures.value in
    let q = c.preempt.ensures.component in
    rw (← c.self.view_is, c.enter.ensures) (rw X.first (
      c.handle.ensures ∙ (ap (λ (x : Component). x.handle) q ∙ (change_preempted (component_of e)).handle),
      units_changed g.C.Client.progress G c.in-Some.place e c.preempt.new.self preempted_units c.self.invariant.0.worlds X.at c.preempt.ensures.kept
          (part_as (component_of e) (component_of c.preempt.new.self) (preempted_units (component_of e)) q (part_preempted (component_of e))) q,
    ))

pub returns-clause-clients : goal.returns-clause-clients
returns-clause-clients g c =
    let i = c.self.inside in
    let es = i.components.items in
    let e = c.index_mut-component.result.now in
    let G : Entries (g.row.C.Denot) = gathered es i.stock i.book i.registry.given in
    let X = chosen g.C.Client.progress G _ c.self.view_is c.in-Some.place victim c.in-Some.ensures.victim c.in-Some.ensures.within e c.index_mut-component.ensures.value in
    let q = c.preempt.ensures.component in
    rw (← c.self.view_is) (clients_set es c.in-Some.place e c.preempt.new.self X.at (ap (λ (x : Component). x.handle) q ∙ (change_preempted (component_of e)).handle) c.preempt.ensures.kept.client)
