use Rattle.std.proofs.Common.{◌≡◌, ℕ, slice_get, Some, sym, ◌∙◌, subst}
use Rattle.il_machine.specs.Due.{due_in, first_due}
use Rattle.il_component.specs.Entries.{Entry, component_of}
use Rattle.port_stock.specs.Kept.{stocked}
use Rattle.resource_book.specs.Account.{Account}
use Rattle.graph_core.specs.Closing.{IsDueAt}
use Rattle.graph_core.specs.Entries.{Entries, look_of}
use Rattle.port_rules.specs.Happened.{Happened}
use Rattle.port_rules.specs.Tests.{thing_of}
use Rattle.port_rules.proofs.Happenings.{of_some}
use Rattle.graph_core.proofs.BookKept.{entered_room, entered_covered, entered_rows}
use Rattle.graph_core.proofs.Clients.{clients_set}
use Rattle.graph_core.proofs.Found.{bounds_of, found_of}
use Rattle.graph_core.proofs.Gathered.{gathered}
use Rattle.graph_core.proofs.Happens.{in_order_there, graph_after, happens_after, fewer_after, after, number_left}
use Rattle.graph_core.proofs.Marking.{marked_set, due_restless}
use Rattle.graph_core.proofs.core_graph.Core.happen.Goals as goal

pub index_mut-component-requires : goal.index_mut-component-requires
index_mut-component-requires g c =
    let i = c.self.inside in
    bounds_of g.C.Client.progress (gathered i.components.items i.stock i.book i.registry.given) _ c.self.view_is c.args.place _ i.components.ok.0 c.requires.within

pub happen_in-waits-requires : goal.happen_in-waits-requires
happen_in-waits-requires g c =
    let i = c.self.inside in
    let e = c.index_mut-component.result.now in
    let G : Entries (g.row.C.Denot) = gathered i.components.items i.stock i.book i.registry.given in
    let at = found_of g.C.Client.progress G _ c.self.view_is c.args.place c.requires.within e c.index_mut-component.ensures.value in
    let asked = subst (λ (x : Entries (g.row.C.Denot)). IsDueAt (look_of x).headers x.entries c.args.place c.args.due) (sym c.self.view_is) c.requires.due in
    record {
      in_order = in_order_there g.C.Client.progress i.components.items i.registry i.stock i.book.units i.book.numbered i.components.cap c.args.place e c.self.invariant.0 at;
      left = rw c.numbered.ensures (number_left g.C.Client.progress i.components.items i.registry i.stock i.book.units i.book.numbered i.components.cap c.args.place e c.self.invariant.0 at);
      first = of_some (slice_get i.components.items c.args.place) (λ (x : Entry (g.row.C.Denot)). due_in (look_of G).headers (component_of x) ≡ Some (thing_of c.args.due)) e at asked;
    }

pub enter-requires-clause-room : goal.enter-requires-clause-room
enter-requires-clause-room g c =
    let i = c.self.inside in
    let e = c.index_mut-component.result.now in
    let d = c.happen_in-waits.new.component in
    let G : Entries (g.row.C.Denot) = gathered i.components.items i.stock i.book i.registry.given in
    let at = found_of g.C.Client.progress G _ c.self.view_is c.args.place c.requires.within e c.index_mut-component.ensures.value in
    let counted : Account = record i.book { numbered = c.happen_in-waits.result } in
    rw c.count_waits.ensures (entered_room g.C.Client.progress G counted c.self.invariant.0.worlds c.self.invariant.2 c.args.place e at d c.happen_in-waits.ensures.happened.component.handle c.self.invariant.0.few)

pub enter-requires-clause-covered : goal.enter-requires-clause-covered
enter-requires-clause-covered g c =
    let i = c.self.inside in
    let e = c.index_mut-component.result.now in
    let d = c.happen_in-waits.new.component in
    let st = c.happen_in-waits.new.stock in
    let waits = c.happen_in-waits.result in
    let G : Entries (g.row.C.Denot) = gathered i.components.items i.stock i.book i.registry.given in
    let at = found_of g.C.Client.progress G _ c.self.view_is c.args.place c.requires.within e c.index_mut-component.ensures.value in
    let asked = subst (λ (x : Entries (g.row.C.Denot)). IsDueAt (look_of x).headers x.entries c.args.place c.args.due) (sym c.self.view_is) c.requires.due in
    let due = of_some (slice_get i.components.items c.args.place) (λ (x : Entry (g.row.C.Denot)). due_in (look_of G).headers (component_of x) ≡ Some (thing_of c.args.due)) e at asked in
    let H = subst (λ (n : ℕ). Happened (thing_of c.args.due) (component_of e) (component_of d) (stocked i.stock) (stocked st) n waits) c.numbered.ensures c.happen_in-waits.ensures.happened in
    let counted : Account = record i.book { numbered = waits } in
    rw c.count_waits.ensures (entered_covered g.C.Client.progress G counted c.self.invariant.0.worlds c.self.invariant.2 c.args.place e at d H.component.handle st waits i.registry.given
    (graph_after g.C.Client.progress i.components.items i.registry i.stock st i.book.units i.book.numbered i.components.cap c.args.place e d (thing_of c.args.due) waits c.self.invariant.0 at c.happen_in-waits.ensures.kept H due).worlds)

pub invariant_of-self : goal.invariant_of-self
invariant_of-self g c =
    let i = c.self.inside in
    let e = c.index_mut-component.result.now in
    let d = c.happen_in-waits.new.component in
    let st = c.happen_in-waits.new.stock in
    let waits = c.happen_in-waits.result in
    let G : Entries (g.row.C.Denot) = gathered i.components.items i.stock i.book i.registry.given in
    let at = found_of g.C.Client.progress G _ c.self.view_is c.args.place c.requires.within e c.index_mut-component.ensures.value in
    let asked = subst (λ (x : Entries (g.row.C.Denot)). IsDueAt (look_of x).headers x.entries c.args.place c.args.due) (sym c.self.view_is) c.requires.due in
    let due = of_some (slice_get i.components.items c.args.place) (λ (x : Entry (g.row.C.Denot)). due_in (look_of G).headers (component_of x) ≡ Some (thing_of c.args.due)) e at asked in
    let H = subst (λ (n : ℕ). Happened (thing_of c.args.due) (component_of e) (component_of d) (stocked i.stock) (stocked st) n waits) c.numbered.ensures c.happen_in-waits.ensures.happened in
    let counted : Account = record i.book { numbered = waits } in
    rw (c.enter.ensures, c.count_waits.ensures) (
      graph_after g.C.Client.progress i.components.items i.registry i.stock st i.book.units i.book.numbered i.components.cap c.args.place e d (thing_of c.args.due) waits c.self.invariant.0 at c.happen_in-waits.ensures.kept H due,
      marked_set i.components.items i.marked c.args.place e d c.self.invariant.1 at (due_restless (look_of G).headers e (λ none. let two = sym none ∙ due in cc)),
      entered_rows g.C.Client.progress G counted c.self.invariant.0.worlds c.self.invariant.2 c.args.place e at d H.component.handle,
    )

pub returns : goal.returns
returns g c =
    let i = c.self.inside in
    let e = c.index_mut-component.result.now in
    let d = c.happen_in-waits.new.component in
    let st = c.happen_in-waits.new.stock in
    let waits = c.happen_in-waits.result in
    let G : Entries (g.row.C.Denot) = gathered i.components.items i.stock i.book i.registry.given in
    let at = found_of g.C.Client.progress G _ c.self.view_is c.args.place c.requires.within e c.index_mut-component.ensures.value in
    let first : first_due (look_of G) ≡ Some c.args.place = subst (λ (x : Entries (g.row.C.Denot)). first_due (look_of x) ≡ Some c.args.place) (sym c.self.view_is) c.requires.first in
    let asked = subst (λ (x : Entries (g.row.C.Denot)). IsDueAt (look_of x).headers x.entries c.args.place c.args.due) (sym c.self.view_is) c.requires.due in
    let due = of_some (slice_get i.components.items c.args.place) (λ (x : Entry (g.row.C.Denot)). due_in (look_of G).headers (component_of x) ≡ Some (thing_of c.args.due)) e at asked in
    let H = subst (λ (n : ℕ). Happened (thing_of c.args.due) (component_of e) (component_of d) (stocked i.stock) (stocked st) n waits) c.numbered.ensures c.happen_in-waits.ensures.happened in
    let F = happens_after g.C.Client.progress G c.args.place e d st (thing_of c.args.due) waits at c.happen_in-waits.ensures.kept H first due in
    record {
      happens = rw (← c.self.view_is, c.enter.ensures, c.count_waits.ensures) F;
      fewer = rw (← c.self.view_is) (fewer_after g.C.Client.progress G (after g.C.Client.progress G c.args.place d st waits) c.self.invariant.0.worlds F);
      clients = rw (← c.self.view_is) (clients_set i.components.items c.args.place e d at H.component.handle c.happen_in-waits.ensures.kept.client);
    }
