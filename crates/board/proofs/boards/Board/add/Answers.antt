use Rattle.std.proofs.Common.{◌∙◌, ap, arith}
use Rattle.board.specs.Rows.{acts_of}
use Rattle.board.proofs.Listing.{acts_long, acts_more}
use Rattle.board.proofs.boards.Board.add.Goals as goal

pub push_back_reserved-requires : goal.push_back_reserved-requires
push_back_reserved-requires g c =
    let long = acts_long c.args.row.now.lists.asked.items in
    let ok = c.args.row.now.lists.asked.ok.0 in
    let room = c.requires.room in
    omega arith

pub returns-clause-acts : goal.returns-clause-acts
returns-clause-acts g c = ap acts_of c.push_back_reserved.ensures.items ∙ acts_more c.args.row.now.lists.asked.items _
