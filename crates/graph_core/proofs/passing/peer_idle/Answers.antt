use Rattle.std.proofs.Common.{◌≡◌, true, false, List, slice_get, Some, sym, ◌∙◌, ap}
use Rattle.std.proofs.lemmas.Option.{slice_get-get_or}
use Rattle.il_machine.specs.declared.answer.Why.TheVariants as why
use Rattle.il_component.specs.Entries.{Entry}
use Rattle.graph_core.proofs.Idling.{peer_at}
use Rattle.graph_core.proofs.passing.peer_idle.Goals as goal

pub returns-then-is_taking : goal.returns-then-is_taking
returns-then-is_taking g c =
    let es : List (Entry (g.row.C.Denot)) = c.args.components.now in
    let end = c.in_ok-end.end in
    let e : Entry (g.row.C.Denot) = c.index-components-end.result in
    let at : slice_get es end.place ≡ Some e = slice_get-get_or es end.place e c.in_ok-end.ensures.within ∙ ap Some (sym c.index-components-end.is) in
    sym (peer_at es c.args.port end e true (sym c.in_ok-end.was ∙ c.other_end.ensures.end) at (sym c.is_taking.ensures ∙ c.if-is_taking.true))

pub returns-else-is_taking : goal.returns-else-is_taking
returns-else-is_taking g c =
    let es : List (Entry (g.row.C.Denot)) = c.args.components.now in
    let end = c.in_ok-end.end in
    let e : Entry (g.row.C.Denot) = c.index-components-end.result in
    let at : slice_get es end.place ≡ Some e = slice_get-get_or es end.place e c.in_ok-end.ensures.within ∙ ap Some (sym c.index-components-end.is) in
    ap (λ id. Some (why.NotRunning id)) c.port_id.ensures
    ∙ sym (peer_at es c.args.port end e false (sym c.in_ok-end.was ∙ c.other_end.ensures.end) at (sym c.is_taking.ensures ∙ c.if-is_taking.false))
