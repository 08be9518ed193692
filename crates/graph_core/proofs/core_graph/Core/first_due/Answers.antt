use Rattle.std.proofs.Common.{◌≡◌, ◌<◌, ℕ, List, length, position, Option, Some, IfSome, option_map, slice_get, refl, sym, subst}
use Rattle.il_machine.specs.Due.{has_due}
use Rattle.il_machine.specs.Headers.{Seen}
use Rattle.port_rules.specs.declared.due.Due.{Due}
use Rattle.graph_core.specs.Closing.{IsDueAt}
use Rattle.il_component.specs.Entries.{Entry}
use Rattle.graph_core.specs.Marking.{AreMarked}
use Rattle.graph_core.specs.Entries.{Entries, components_of, look_of}
use Rattle.graph_core.proofs.Happens.{ports_there}
use Rattle.graph_core.proofs.Gathered.{gathered}
use Rattle.graph_core.proofs.core_graph.Core.first_due.Goals as goal

pub first_due_of-requires : goal.first_due_of-requires
first_due_of-requires g c =
    let i = c.self.inside in
    let G : Entries (g.row.C.Denot) = gathered i.components.items i.stock i.book i.registry.given in
    record {
      ports = λ j e at. ports_there g.C.Client.progress G i.registry i.components.cap j e c.self.invariant.0 refl (subst (λ (es : List (Entry (g.row.C.Denot))). slice_get es j ≡ Some e) c.deref.ensures.value at);
      marks = subst (λ (es : List (Entry (g.row.C.Denot))). AreMarked es i.marked) (sym c.deref.ensures.value) c.self.invariant.1;
    }

pub invariant_of-self : goal.invariant_of-self
invariant_of-self g c =
    let i = c.self.inside in
    (c.self.invariant.0, subst (λ (es : List (Entry (g.row.C.Denot))). AreMarked es c.first_due_of.new.marked) c.deref.ensures.value c.first_due_of.ensures.marks, c.self.invariant.2)

-- what is told of the components, as the graph is seen
told : {C : Type 0} (g v : Entries C) → g ≡ v → (ds : List (Entry C)) → ds ≡ g.entries → (P : Seen → List (Entry C) → Type 0) → P (look_of g).headers ds → P (look_of v).headers v.entries
told {C = C} g v sees ds is P h = subst (λ (x : Entries C). P (look_of x).headers x.entries) sees (subst (P (look_of g).headers) is h)

pub returns : goal.returns
returns g c =
    let i = c.self.inside in
    let G : Entries (g.row.C.Denot) = gathered i.components.items i.stock i.book i.registry.given in
    let r : Option (ℕ × Due) = c.first_due_of.result in record {
      place = told G _ c.self.view_is c.deref.result.now c.deref.ensures.value (λ headers es. option_map (λ first. first.0) r ≡ position (has_due headers) (components_of es)) c.first_due_of.ensures.place;
      due = told G _ c.self.view_is c.deref.result.now c.deref.ensures.value (λ headers es. IfSome r (λ first. IsDueAt headers es first.0 first.1)) c.first_due_of.ensures.due;
      within = told G _ c.self.view_is c.deref.result.now c.deref.ensures.value (λ headers es. IfSome r (λ first. first.0 < length es)) c.first_due_of.ensures.within;
      unchanged = c.self.view_is;
    }
