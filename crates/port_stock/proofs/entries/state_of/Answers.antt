use Rattle.std.proofs.Common.{sym, ◌∙◌}
use Rattle.port_stock.proofs.Looking.{state_nowhere, state_there}
use Rattle.port_stock.proofs.entries.state_of.Goals as goal

pub returns-in_default : goal.returns-in_default
returns-in_default c = state_nowhere c.args.number c.args.entries.now (sym c.number_place.ensures.place ∙ c.in_default.is)

pub returns : goal.returns
returns c = state_there c.args.number _ c.args.entries.now _ (sym c.number_place.ensures.place ∙ c.in-Some.is) c.index-entries-place.is
