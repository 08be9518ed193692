use Rattle.std.proofs.Common.{sym}
use Rattle.port_stock.proofs.Places.{numbered_place, within}
use Rattle.port_stock.proofs.entries.number_place.Goals as goal

pub returns-in-Some-clause-place : goal.returns-in-Some-clause-place
returns-in-Some-clause-place c = sym (numbered_place c.args.number c.in-Some.place c.args.entries.now c.requires c.in-Some.ensures)

pub returns-in-Some-clause-within : goal.returns-in-Some-clause-within
returns-in-Some-clause-within c = within c.args.number c.in-Some.place c.args.entries.now c.in-Some.ensures
