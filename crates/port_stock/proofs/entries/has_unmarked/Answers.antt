use Rattle.std.proofs.Common.{sym, ◌∙◌}
use Rattle.port_stock.proofs.Places.{at}
use Rattle.port_stock.proofs.Changing.{same_entry}
use Rattle.port_stock.proofs.Looking.{unmarked_there, unmarked_nowhere}
use Rattle.port_stock.proofs.entries.has_unmarked.Goals as goal

pub returns-in_default : goal.returns-in_default
returns-in_default c = unmarked_nowhere c.args.number c.args.entries.now (sym c.number_place.ensures.place ∙ c.in_default.is)

pub returns : goal.returns
returns c =
    let A = at c.args.number _ c.args.entries.now (sym c.number_place.ensures.place ∙ c.in-Some.is) in
    c.is_unmarked.ensures ∙ unmarked_there _ _ _ _ A (same_entry _ _ _ _ A c.index-entries-place.is)
