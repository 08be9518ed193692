use Rattle.std.proofs.Common.{refl}
use Rattle.port_stock.specs.Kept.{stocked}
use Rattle.graph_core.proofs.Moving.{passed_on, shared_done}
use Rattle.graph_core.proofs.passing.pass_on.Goals as goal

pub pass_done-requires-clause-made_for : goal.pass_done-requires-clause-made_for
pass_done-requires-clause-made_for c = shared_done (stocked c.args.stock.now) c.args.key c.args.peer c.requires.shared

pub returns : goal.returns
returns c = passed_on (stocked c.args.stock.now) (stocked c.pass_done.new.self) c.args.key c.args.peer _ refl c.pass_done.ensures.stock
