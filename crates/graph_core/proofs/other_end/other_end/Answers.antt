use Rattle.std.proofs.Common.{◌≡◌, List, slice_get, Some, option_map, sym, ◌∙◌, ap}
use Rattle.std.proofs.lemmas.Option.{slice_get-get_or, slice_get-map}
use Rattle.il_machine.specs.declared.port.Link.{Link}
use Rattle.il_component.specs.Entries.{Entry, component_of}
use Rattle.graph_core.specs.Entries.{components_of}
use Rattle.graph_core.proofs.OtherEnd.{at_place, end_with, no_place, numbered_is}
use Rattle.graph_core.proofs.other_end.other_end.Goals as goal

pub returns-in_err-place-clause-end : goal.returns-in_err-place-clause-end
returns-in_err-place-clause-end g c =
    let es : List (Entry (g.row.C.Denot)) = c.args.components.now in
    let link : Link = c.in_ok-peer.field-0 in
    c.from_residual-in_err-place.ensures
    ∙ no_place (components_of es) c.args.port link c.in_ok-peer.was (sym c.in_err-place.was ∙ (c.place_numbered.ensures.place ∙ numbered_is (link.peer).component es))

pub returns-in_err-port-clause-end : goal.returns-in_err-port-clause-end
returns-in_err-port-clause-end g c =
    let es : List (Entry (g.row.C.Denot)) = c.args.components.now in
    let e : Entry (g.row.C.Denot) = c.index-components-place.result in
    let i = c.in_ok-place.place in
    let link : Link = c.in_ok-peer.field-0 in
    let at : slice_get es i ≡ Some e = slice_get-get_or es i e c.in_ok-place.ensures.within ∙ ap Some (sym c.index-components-place.is) in
    let there : slice_get (components_of es) i ≡ Some (component_of e) = slice_get-map component_of es i ∙ ap (option_map component_of) at in
    let found = at_place (components_of es) c.args.port link i (component_of e) c.in_ok-peer.was (sym (numbered_is (link.peer).component es) ∙ (sym c.place_numbered.ensures.place ∙ c.in_ok-place.was)) there in
    c.from_residual-in_err-port.ensures ∙ (ap (option_map (end_with i)) (sym c.in_err-port.was ∙ c.port.ensures) ∙ found)

pub returns-clause-end : goal.returns-clause-end
returns-clause-end g c =
    let es : List (Entry (g.row.C.Denot)) = c.args.components.now in
    let e : Entry (g.row.C.Denot) = c.index-components-place.result in
    let i = c.in_ok-place.place in
    let link : Link = c.in_ok-peer.field-0 in
    let at : slice_get es i ≡ Some e = slice_get-get_or es i e c.in_ok-place.ensures.within ∙ ap Some (sym c.index-components-place.is) in
    let there : slice_get (components_of es) i ≡ Some (component_of e) = slice_get-map component_of es i ∙ ap (option_map component_of) at in
    let found = at_place (components_of es) c.args.port link i (component_of e) c.in_ok-peer.was (sym (numbered_is (link.peer).component es) ∙ (sym c.place_numbered.ensures.place ∙ c.in_ok-place.was)) there in
    ap (option_map (end_with i)) (sym c.in_ok-port.was ∙ c.port.ensures) ∙ found
