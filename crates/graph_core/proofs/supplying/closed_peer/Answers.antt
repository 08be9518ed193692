use Rattle.std.proofs.Common.{◌≡◌, List, slice_get, Some, refl, sym, ◌∙◌, ap}
use Rattle.std.proofs.lemmas.Option.{slice_get-get_or}
use Rattle.il_component.specs.Entries.{Entry, component_of}
use Rattle.port_stock.specs.Kept.{stocked}
use Rattle.graph_core.proofs.OtherEnd.{IsEnd, end_found}
use Rattle.port_rules.proofs.Walking.{port_kept}
use Rattle.graph_core.proofs.supplying.closed_peer.Goals as goal

pub closed_port-requires : goal.closed_port-requires
closed_port-requires g c =
    let es : List (Entry (g.row.C.Denot)) = c.args.components.now in
    let e : Entry (g.row.C.Denot) = c.index-components-end.result in
    let end = c.in_ok-end.end in
    let at : slice_get es end.place ≡ Some e = slice_get-get_or es end.place e c.in_ok-end.ensures.within ∙ ap Some (sym c.index-components-end.is) in
    let E : IsEnd es c.args.port end e = end_found es c.args.port end e c.in_ok-end.ensures.end at in
    port_kept (component_of e) (stocked c.args.stock.now) E.index end.port (c.requires.kept end.place e at) E.port

pub returns : goal.returns
returns g c =
    let es : List (Entry (g.row.C.Denot)) = c.args.components.now in
    let e : Entry (g.row.C.Denot) = c.index-components-end.result in
    let end = c.in_ok-end.end in
    let at : slice_get es end.place ≡ Some e = slice_get-get_or es end.place e c.in_ok-end.ensures.within ∙ ap Some (sym c.index-components-end.is) in
    let E : IsEnd es c.args.port end e = end_found es c.args.port end e c.in_ok-end.ensures.end at in
    c.closed_port.ensures ∙ rw E.is refl
