use Rattle.std.proofs.Common.{◌≡◌, ◌<◌, length, slice_get, Some, None, sym, ◌∙◌, ap, subst}
use Rattle.std.proofs.lemmas.Option.{slice_get-get_or}
use Rattle.il_machine.specs.Units.{coming_units, first_waiter, victim, weakest}
use Rattle.il_component.specs.Entries.{component_of}
use Rattle.graph_core.specs.Entries.{Entries, components_of, look_of}
use Rattle.graph_core.proofs.BookKept.{coming_there}
use Rattle.graph_core.proofs.Counting.{component_there}
use Rattle.graph_core.proofs.Granting.{enough_is, no_victim_is, victim_lacks_is}
use Rattle.graph_core.proofs.core_graph.Core.preempt_idle.Goals as goal

pub returns-then-need-have : goal.returns-then-need-have
returns-then-need-have g c =
    let i = c.self.inside in
    let es = i.components.items in
    let e = c.index.result.now in
    let found : slice_get (components_of es) c.in-Some.waiter ≡ first_waiter (components_of es) = rw (← c.self.view_is) at c.in-Some.ensures.waiter in
    let within : c.in-Some.waiter < length es = rw (← c.self.view_is) at c.in-Some.ensures.within in
    let at : slice_get es c.in-Some.waiter ≡ Some e = slice_get-get_or es c.in-Some.waiter e within ∙ ap Some (sym c.index.ensures) in
    let first : first_waiter (components_of c.args.self.now.entries) ≡ Some (component_of e) =
    subst (λ (x : Entries (g.row.C.Denot)). first_waiter (components_of x.entries) ≡ Some (component_of e)) c.self.view_is (sym found ∙ component_there es c.in-Some.waiter e at) in
    let have : c.coming-have.result ≡ coming_units (look_of c.args.self.now) = subst (λ (x : Entries (g.row.C.Denot)). c.coming-have.result ≡ coming_units (look_of x)) c.self.view_is (c.coming-have.ensures ∙ coming_there i.book es c.self.invariant.2) in
    enough_is (look_of c.args.self.now) (component_of e) first c.coming-have.result c.need-need.result c.need-need.ensures.need have c.if-need-have.true

pub returns-in-Some-victim : goal.returns-in-Some-victim
returns-in-Some-victim g c =
    let i = c.self.inside in
    let es = i.components.items in
    let e = c.index.result.now in
    let found : slice_get (components_of es) c.in-Some.waiter ≡ first_waiter (components_of es) = rw (← c.self.view_is) at c.in-Some.ensures.waiter in
    let within : c.in-Some.waiter < length es = rw (← c.self.view_is) at c.in-Some.ensures.within in
    let at : slice_get es c.in-Some.waiter ≡ Some e = slice_get-get_or es c.in-Some.waiter e within ∙ ap Some (sym c.index.ensures) in
    let first : first_waiter (components_of c.args.self.now.entries) ≡ Some (component_of e) =
    subst (λ (x : Entries (g.row.C.Denot)). first_waiter (components_of x.entries) ≡ Some (component_of e)) c.self.view_is (sym found ∙ component_there es c.in-Some.waiter e at) in
    let have : c.coming-have.result ≡ coming_units (look_of c.args.self.now) = subst (λ (x : Entries (g.row.C.Denot)). c.coming-have.result ≡ coming_units (look_of x)) c.self.view_is (c.coming-have.ensures ∙ coming_there i.book es c.self.invariant.2) in
    let weak : slice_get (components_of es) c.in-Some-victim.place ≡ victim (components_of es) = rw (← c.self.view_is) at c.in-Some-victim.ensures.victim in
    let inside : c.in-Some-victim.place < length es = rw (← c.self.view_is) at c.in-Some-victim.ensures.within in
    let d = c.index-in-Some-victim.result.now in
    let there : slice_get es c.in-Some-victim.place ≡ Some d = slice_get-get_or es c.in-Some-victim.place d inside ∙ ap Some (sym c.index-in-Some-victim.ensures) in
    let last : victim (components_of c.args.self.now.entries) ≡ Some (component_of d) =
    subst (λ (x : Entries (g.row.C.Denot)). victim (components_of x.entries) ≡ Some (component_of d)) c.self.view_is (sym weak ∙ component_there es c.in-Some-victim.place d there) in
    let weaker : weakest (component_of e) (components_of c.args.self.now.entries) ≡ Some (component_of d) = rw first at last in
    victim_lacks_is (look_of c.args.self.now) (component_of e) first c.coming-have.result c.need-need.result c.need-need.ensures.need (component_of d) c.lacks_event_room.result have c.if-need-have.false weaker c.lacks_event_room.ensures

pub returns-in-None : goal.returns-in-None
returns-in-None g c =
    let i = c.self.inside in
    let es = i.components.items in
    let e = c.index.result.now in
    let found : slice_get (components_of es) c.in-Some.waiter ≡ first_waiter (components_of es) = rw (← c.self.view_is) at c.in-Some.ensures.waiter in
    let within : c.in-Some.waiter < length es = rw (← c.self.view_is) at c.in-Some.ensures.within in
    let at : slice_get es c.in-Some.waiter ≡ Some e = slice_get-get_or es c.in-Some.waiter e within ∙ ap Some (sym c.index.ensures) in
    let first : first_waiter (components_of c.args.self.now.entries) ≡ Some (component_of e) =
    subst (λ (x : Entries (g.row.C.Denot)). first_waiter (components_of x.entries) ≡ Some (component_of e)) c.self.view_is (sym found ∙ component_there es c.in-Some.waiter e at) in
    let have : c.coming-have.result ≡ coming_units (look_of c.args.self.now) = subst (λ (x : Entries (g.row.C.Denot)). c.coming-have.result ≡ coming_units (look_of x)) c.self.view_is (c.coming-have.ensures ∙ coming_there i.book es c.self.invariant.2) in
    let none : victim (components_of c.args.self.now.entries) ≡ None = sym c.in-None.ensures.victim in
    let last : weakest (component_of e) (components_of c.args.self.now.entries) ≡ None = rw first at none in
    no_victim_is (look_of c.args.self.now) (component_of e) first c.coming-have.result c.need-need.result c.need-need.ensures.need have c.if-need-have.false last
