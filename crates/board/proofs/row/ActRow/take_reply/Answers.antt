use Rattle.std.proofs.Common.{ap, refl}
use Rattle.board.specs.Rows.{replies_of}
use Rattle.board.proofs.row.ActRow.take_reply.Goals as goal

pub returns-clause-some : goal.returns-clause-some
returns-clause-some g c = (refl, refl, ap replies_of c.in-Some.ensures.items)
