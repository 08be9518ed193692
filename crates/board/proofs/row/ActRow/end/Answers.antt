use Rattle.std.proofs.Common.{ap, length, arith}
use Rattle.board.proofs.Listing.{acts_long, replies_long}
use Rattle.board.proofs.row.ActRow.end.Goals as goal

pub destroy_empty-requires : goal.destroy_empty-requires
destroy_empty-requires g c = let none = ap length c.requires.0 in let long = acts_long c.args.self.lists.asked.items in let ok = c.args.self.lists.asked.ok.0 in omega arith

pub destroy_empty-requires-2 : goal.destroy_empty-requires-2
destroy_empty-requires-2 g c = let none = ap length c.requires.1 in let long = replies_long c.args.self.lists.told.items in let ok = c.args.self.lists.told.ok.0 in omega arith
