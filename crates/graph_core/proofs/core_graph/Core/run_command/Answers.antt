use Rattle.std.proofs.Common.{◌≡◌, ◌<◌, length, None, sym, ◌∙◌, ap, subst, arith}
use Rattle.il_machine.specs.World.{Component}
use Rattle.il_machine.specs.Look.{Look, look}
use Rattle.il_machine.specs.Commands.{run_front}
use Rattle.il_machine.specs.Sound.{IsSound}
use Rattle.machine_laws.proofs.Running.{sound_run, change_run}
use Rattle.il_machine.specs.Due.{first_due}
use Rattle.graph_core.proofs.SameParts.{part_as, part_run}
use Rattle.il_component.specs.Entries.{component_of}
use Rattle.graph_core.specs.Entries.{Entries, look_of}
use Rattle.graph_core.proofs.Clients.{clients_set}
use Rattle.graph_core.proofs.Replacing.{there, within, component_sound, returns_changed}
use Rattle.graph_core.proofs.Marking.{marked_more}
use Rattle.graph_core.proofs.Found.{bounds, found}
use Rattle.graph_core.proofs.Gathered.{gathered}
use Rattle.graph_core.proofs.BookKept.{entered_room, entered_covered, entered_rows, free_there}
use Rattle.graph_core.proofs.Entering.{run_graph}
use Rattle.graph_core.proofs.core_graph.Core.run_command.Goals as goal

pub index_mut-component-requires : goal.index_mut-component-requires
index_mut-component-requires g c =
    let i = c.self.inside in
    bounds g.C.Client.progress (gathered i.components.items i.stock i.book i.registry.given) _ c.self.view_is c.args.place _ c.requires.may _ i.components.ok.0

pub run-requires : goal.run-requires
run-requires g c =
    let i = c.self.inside in
    let e = c.index_mut-component.result.now in
    let G : Entries (g.row.C.Denot) = gathered i.components.items i.stock i.book i.registry.given in
    let asked = rw (← c.self.view_is) at c.requires.may in
    let at = found g.C.Client.progress G _ c.self.view_is c.args.place _ c.requires.may e c.index_mut-component.ensures.value in
    let r = rw (there g.C.Client.progress G c.args.place e at) at asked in
    let S : IsSound (component_of e) = component_sound g.C.Client.progress G c.args.place (component_of e) c.self.invariant.0.worlds (there g.C.Client.progress G c.args.place e at) in
    λ l n. (sound_run l (component_of e) S r).room

pub insert-requires : goal.insert-requires
insert-requires g c =
    let i = c.self.inside in
    let e = c.index_mut-component.result.now in
    let G : Entries (g.row.C.Denot) = gathered i.components.items i.stock i.book i.registry.given in
    let asked = rw (← c.self.view_is) at c.requires.may in
    let b : c.args.place < length i.components.items = within g.C.Client.progress G c.args.place _ asked in
    let few = c.self.invariant.0.few in
    omega arith

pub enter-requires-clause-room : goal.enter-requires-clause-room
enter-requires-clause-room g c =
    let i = c.self.inside in
    let e = c.index_mut-component.result.now in
    let G : Entries (g.row.C.Denot) = gathered i.components.items i.stock i.book i.registry.given in
    let at = found g.C.Client.progress G _ c.self.view_is c.args.place _ c.requires.may e c.index_mut-component.ensures.value in
    let q : component_of c.run.new.self ≡ run_front (look_of G) (component_of e).commands (component_of e) = c.run.ensures.component (look_of G) (record { units = sym (c.free-free.ensures.count ∙ free_there i.book i.components.items c.self.invariant.2); numbered = sym c.numbered.ensures }) in
    entered_room g.C.Client.progress G i.book c.self.invariant.0.worlds c.self.invariant.2 c.args.place e at c.run.new.self (ap (λ (x : Component). x.handle) q ∙ (change_run (look_of G) (component_of e)).handle) c.self.invariant.0.few

pub enter-requires-clause-covered : goal.enter-requires-clause-covered
enter-requires-clause-covered g c =
    let i = c.self.inside in
    let e = c.index_mut-component.result.now in
    let G : Entries (g.row.C.Denot) = gathered i.components.items i.stock i.book i.registry.given in
    let asked = rw (← c.self.view_is) at c.requires.may in
    let at = found g.C.Client.progress G _ c.self.view_is c.args.place _ c.requires.may e c.index_mut-component.ensures.value in
    let r = rw (there g.C.Client.progress G c.args.place e at) at asked in
    let q : component_of c.run.new.self ≡ run_front (look_of G) (component_of e).commands (component_of e) = c.run.ensures.component (look_of G) (record { units = sym (c.free-free.ensures.count ∙ free_there i.book i.components.items c.self.invariant.2); numbered = sym c.numbered.ensures }) in
    let closed : first_due (look_of G) ≡ None = subst (λ (x : Entries (g.row.C.Denot)). first_due (look_of x) ≡ None) (sym c.self.view_is) c.requires.closed in
    entered_covered g.C.Client.progress G i.book c.self.invariant.0.worlds c.self.invariant.2 c.args.place e at c.run.new.self (ap (λ (x : Component). x.handle) q ∙ (change_run (look_of G) (component_of e)).handle) i.stock i.book.numbered i.registry.given
    (run_graph g.C.Client.progress i.components.items i.registry i.stock i.book.units i.book.numbered i.components.cap c.args.place e c.run.new.self c.self.invariant.0 at c.run.ensures.kept q r closed).worlds

pub invariant_of-self : goal.invariant_of-self
invariant_of-self g c =
    let i = c.self.inside in
    let e = c.index_mut-component.result.now in
    let G : Entries (g.row.C.Denot) = gathered i.components.items i.stock i.book i.registry.given in
    let asked = rw (← c.self.view_is) at c.requires.may in
    let at = found g.C.Client.progress G _ c.self.view_is c.args.place _ c.requires.may e c.index_mut-component.ensures.value in
    let r = rw (there g.C.Client.progress G c.args.place e at) at asked in
    let q : component_of c.run.new.self ≡ run_front (look_of G) (component_of e).commands (component_of e) = c.run.ensures.component (look_of G) (record { units = sym (c.free-free.ensures.count ∙ free_there i.book i.components.items c.self.invariant.2); numbered = sym c.numbered.ensures }) in
    let closed : first_due (look_of G) ≡ None = subst (λ (x : Entries (g.row.C.Denot)). first_due (look_of x) ≡ None) (sym c.self.view_is) c.requires.closed in
    rw c.enter.ensures (
      run_graph g.C.Client.progress i.components.items i.registry i.stock i.book.units i.book.numbered i.components.cap c.args.place e c.run.new.self c.self.invariant.0 at c.run.ensures.kept q r closed,
      marked_more i.components.items i.marked c.args.place e c.run.new.self c.self.invariant.1 at c.insert.new.self c.insert.ensures,
      entered_rows g.C.Client.progress G i.book c.self.invariant.0.worlds c.self.invariant.2 c.args.place e at c.run.new.self (ap (λ (x : Component). x.handle) q ∙ (change_run (look_of G) (component_of e)).handle),
    )

pub returns-clause-change : goal.returns-clause-change
returns-clause-change g c =
    let i = c.self.inside in
    let e = c.index_mut-component.result.now in
    let G : Entries (g.row.C.Denot) = gathered i.components.items i.stock i.book i.registry.given in
    let at = found g.C.Client.progress G _ c.self.view_is c.args.place _ c.requires.may e c.index_mut-component.ensures.value in
    let q : component_of c.run.new.self ≡ run_front (look_of G) (component_of e).commands (component_of e) = c.run.ensures.component (look_of G) (record { units = sym (c.free-free.ensures.count ∙ free_there i.book i.components.items c.self.invariant.2); numbered = sym c.numbered.ensures }) in
    rw (← c.self.view_is, c.enter.ensures) (returns_changed g.C.Client.progress G c.args.place e c.run.new.self (λ w k. run_front (look w) k.commands k) at c.run.ensures.kept
    (part_as (component_of e) (component_of c.run.new.self) (run_front (look_of G) (component_of e).commands (component_of e)) q (part_run (look_of G) (component_of e).commands (component_of e))) (λ w s. subst (λ (l : Look). component_of c.run.new.self ≡ run_front l (component_of e).commands (component_of e)) (sym s.looks) q))

pub returns-clause-clients : goal.returns-clause-clients
returns-clause-clients g c =
    let i = c.self.inside in
    let e = c.index_mut-component.result.now in
    let G : Entries (g.row.C.Denot) = gathered i.components.items i.stock i.book i.registry.given in
    let at = found g.C.Client.progress G _ c.self.view_is c.args.place _ c.requires.may e c.index_mut-component.ensures.value in
    let q : component_of c.run.new.self ≡ run_front (look_of G) (component_of e).commands (component_of e) = c.run.ensures.component (look_of G) (record { units = sym (c.free-free.ensures.count ∙ free_there i.book i.components.items c.self.invariant.2); numbered = sym c.numbered.ensures }) in
    rw (← c.self.view_is) (clients_set i.components.items c.args.place e c.run.new.self at
    (ap (λ (x : Component). x.handle) q ∙ (change_run (look_of G) (component_of e)).handle) c.run.ensures.kept.client)
