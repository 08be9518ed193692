use Rattle.std.proofs.Common.{◌≡◌, ◌<◌, length, slice_get, is_some, Option, Some, None, option_map, refl, sym, ◌∙◌, ap, subst, arith}
use Rattle.std.proofs.lemmas.Option.{slice_get-get_or}
use Rattle.bit_set.specs.Members.{IsNext}
use Rattle.il_machine.specs.Due.{Thing, due_in}
use Rattle.il_machine.proofs.Calm.{calm_due}
use Rattle.il_component.specs.Entries.{Entry, component_of}
use Rattle.port_stock.specs.Kept.{stocked}
use Rattle.port_rules.specs.Tests.{thing_of}
use Rattle.port_rules.proofs.Happenings.{to_some}
use Rattle.graph_core.proofs.Happens.{first_found, first_none, none_more}
use Rattle.graph_core.proofs.Marking.{marked_less, none_to, none_left}
use Rattle.graph_core.proofs.closing.first_due_of.Goals.{then-is_calm, else-is_calm+in_default-due_in}
use Rattle.graph_core.proofs.closing.first_due_of.Goals as goal

pub loop-place-init : goal.loop-place-init
loop-place-init g c = record { marks = c.requires.marks; before = λ k e b at. absurd (omega (arith, b)) }

pub bounds-components-place : goal.bounds-components-place
bounds-components-place g c = c.loop-place.invariant.marks.there c.in-Some.place c.in-Some.ensures.2

pub remove-requires : goal.remove-requires
remove-requires g c = c.in-Some.ensures.1

pub returns-in-Some-due_in-clause-within : goal.returns-in-Some-due_in-clause-within
returns-in-Some-due_in-clause-within g c = c.loop-place.invariant.marks.there c.in-Some.place c.in-Some.ensures.2

pub returns-in-Some-due_in-clause-marks : goal.returns-in-Some-due_in-clause-marks
returns-in-Some-due_in-clause-marks g c = c.loop-place.invariant.marks

pub overflow_add-from : goal.overflow_add-from
overflow_add-from g c = let b = c.in-Some.ensures.1 in omega (arith, b)

pub loop-place-smaller : goal.loop-place-smaller
loop-place-smaller g c =
    let a = c.in-Some.ensures.0 in
    let b = c.in-Some.ensures.1 in
    omega (arith, a, b)

pub returns-clause-marks : goal.returns-clause-marks
returns-clause-marks g c = c.loop-place.invariant.marks

pub due_in-requires : goal.due_in-requires
due_in-requires g c =
    let e = c.index-components-place.result in
    let b : c.in-Some.place < length c.args.components.now = c.loop-place.invariant.marks.there c.in-Some.place c.in-Some.ensures.2 in
    c.requires.ports c.in-Some.place e (slice_get-get_or c.args.components.now c.in-Some.place e b ∙ ap Some (sym c.index-components-place.is))

pub returns-in-Some-due_in-clause-place : goal.returns-in-Some-due_in-clause-place
returns-in-Some-due_in-clause-place g c =
    let es = c.args.components.now in
    let headers = (stocked c.args.stock.now).headers in
    let e = c.index-components-place.result in
    let I = c.loop-place.invariant in
    let b : c.in-Some.place < length es = I.marks.there c.in-Some.place c.in-Some.ensures.2 in
    let at = slice_get-get_or es c.in-Some.place e b ∙ ap Some (sym c.index-components-place.is) in
    first_found headers es c.in-Some.place e (none_to headers es c.loop-place.marked c.loop-place.from c.in-Some.place I.marks c.in-Some.ensures I.before) at
    (ap (λ (o : Option Thing). is_some o) (sym c.due_in.ensures ∙ ap (option_map thing_of) c.in-Some-due_in.is))

pub returns-in-Some-due_in-clause-due : goal.returns-in-Some-due_in-clause-due
returns-in-Some-due_in-clause-due g c =
    let es = c.args.components.now in
    let e = c.index-components-place.result in
    let b : c.in-Some.place < length es = c.loop-place.invariant.marks.there c.in-Some.place c.in-Some.ensures.2 in
    let at = slice_get-get_or es c.in-Some.place e b ∙ ap Some (sym c.index-components-place.is) in
    to_some (slice_get es c.in-Some.place) (λ (x : Entry (g.row.C.Denot)). due_in (stocked c.args.stock.now).headers (component_of x) ≡ Some (thing_of c.in-Some-due_in.due)) e at
    (sym c.due_in.ensures ∙ ap (option_map thing_of) c.in-Some-due_in.is)

pub loop-place-preserved : goal.loop-place-preserved
loop-place-preserved g c =
    let es = c.args.components.now in
    let headers = (stocked c.args.stock.now).headers in
    let e = c.index-components-place.result in
    let i = c.in-Some.place in
    let I = c.loop-place.invariant in
    let b : i < length es = I.marks.there i c.in-Some.ensures.2 in
    let at = slice_get-get_or es i e b ∙ ap Some (sym c.index-components-place.is) in
    let f = none_to headers es c.loop-place.marked c.loop-place.from i I.marks c.in-Some.ensures I.before in
    elim c.if-is_calm.branch [
      | then-is_calm w ↦
          let calm = c.is_calm.ensures.0 w.if-is_calm.true in
          record {
            marks = rw w.marked-is (marked_less es c.loop-place.marked w.remove.new.self i e I.marks at calm w.remove.ensures);
            before = none_more headers es i e f at (rw (calm_due headers (component_of e) calm) refl);
          }
      | else-is_calm+in_default-due_in w ↦
          record {
            marks = rw w.marked-is I.marks;
            before = none_more headers es i e f at (ap (λ (o : Option Thing). is_some o) (sym w.due_in.ensures ∙ ap (option_map thing_of) w.in_default-due_in.is));
          }
    ]

pub returns-clause-place : goal.returns-clause-place
returns-clause-place g c =
    let es = c.args.components.now in
    let headers = (stocked c.args.stock.now).headers in
    let N : IsNext c.loop-place.marked c.loop-place.from None = subst (IsNext c.loop-place.marked c.loop-place.from) c.in_default.is c.next.ensures in
    first_none headers es (none_left headers es c.loop-place.marked c.loop-place.from c.loop-place.invariant.marks N c.loop-place.invariant.before)
