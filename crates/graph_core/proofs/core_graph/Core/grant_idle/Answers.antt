use Rattle.std.proofs.Common.{◌≡◌, ◌<◌, length, slice_get, Some, sym, ◌∙◌, ap, subst}
use Rattle.std.proofs.lemmas.Option.{slice_get-get_or}
use Rattle.il_machine.specs.Units.{first_waiter, free_units}
use Rattle.il_component.specs.Entries.{component_of}
use Rattle.graph_core.specs.Entries.{Entries, components_of, look_of}
use Rattle.graph_core.proofs.BookKept.{free_there}
use Rattle.graph_core.proofs.Counting.{component_there}
use Rattle.graph_core.proofs.Granting.{short_is, lacks_is}
use Rattle.graph_core.proofs.core_graph.Core.grant_idle.Goals as goal

pub returns-then-have-need : goal.returns-then-have-need
returns-then-have-need g c =
    let i = c.self.inside in
    let es = i.components.items in
    let e = c.index-waiter.result.now in
    let found : slice_get (components_of es) c.in-Some.place ≡ first_waiter (components_of es) = rw (← c.self.view_is) at c.in-Some.ensures.waiter in
    let within : c.in-Some.place < length es = rw (← c.self.view_is) at c.in-Some.ensures.within in
    let at : slice_get es c.in-Some.place ≡ Some e = slice_get-get_or es c.in-Some.place e within ∙ ap Some (sym c.index-waiter.ensures) in
    let first : first_waiter (components_of c.args.self.now.entries) ≡ Some (component_of e) =
    subst (λ (x : Entries (g.row.C.Denot)). first_waiter (components_of x.entries) ≡ Some (component_of e)) c.self.view_is (sym found ∙ component_there es c.in-Some.place e at) in
    let have : c.free-have.result ≡ free_units (look_of c.args.self.now) = subst (λ (x : Entries (g.row.C.Denot)). c.free-have.result ≡ free_units (look_of x)) c.self.view_is (c.free-have.ensures.count ∙ free_there i.book es c.self.invariant.2) in
    short_is (look_of c.args.self.now) (component_of e) first c.free-have.result c.need-need.result c.need-need.ensures.need have c.if-have-need.true

pub returns : goal.returns
returns g c =
    let i = c.self.inside in
    let es = i.components.items in
    let e = c.index-waiter.result.now in
    let found : slice_get (components_of es) c.in-Some.place ≡ first_waiter (components_of es) = rw (← c.self.view_is) at c.in-Some.ensures.waiter in
    let within : c.in-Some.place < length es = rw (← c.self.view_is) at c.in-Some.ensures.within in
    let at : slice_get es c.in-Some.place ≡ Some e = slice_get-get_or es c.in-Some.place e within ∙ ap Some (sym c.index-waiter.ensures) in
    let first : first_waiter (components_of c.args.self.now.entries) ≡ Some (component_of e) =
    subst (λ (x : Entries (g.row.C.Denot)). first_waiter (components_of x.entries) ≡ Some (component_of e)) c.self.view_is (sym found ∙ component_there es c.in-Some.place e at) in
    let have : c.free-have.result ≡ free_units (look_of c.args.self.now) = subst (λ (x : Entries (g.row.C.Denot)). c.free-have.result ≡ free_units (look_of x)) c.self.view_is (c.free-have.ensures.count ∙ free_there i.book es c.self.invariant.2) in
    lacks_is (look_of c.args.self.now) (component_of e) first c.free-have.result c.need-need.result c.need-need.ensures.need c.lacks_event_room.result have c.if-have-need.false c.lacks_event_room.ensures
