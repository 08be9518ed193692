use Rattle.std.proofs.Common.{sym}
use Rattle.graph_core.proofs.Numbers.{halved, within_halved}
use Rattle.graph_core.proofs.other_end.place_numbered.Goals as goal

pub returns-in-Some-clause-place : goal.returns-in-Some-clause-place
returns-in-Some-clause-place g c = sym (halved c.args.number c.in-Some.place c.args.components.now c.requires c.in-Some.ensures)

pub returns-in-Some-clause-within : goal.returns-in-Some-clause-within
returns-in-Some-clause-within g c = within_halved c.args.number c.in-Some.place c.args.components.now c.in-Some.ensures
