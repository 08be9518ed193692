use Rattle.std.proofs.Common.{ap}
use Rattle.state_words.specs.Tokens.{IsReaderOf}
use Rattle.board.specs.Histories.{words_of}
use Rattle.board.specs.Boards.{first_of}
use Rattle.board.specs.Rows.{acts_of}
use Rattle.board.proofs.Listing.{all_behind}
use Rattle.board.proofs.row.ActRow.take_act.Goals as goal

pub returns-clause-some : goal.returns-clause-some
returns-clause-some g c = ap acts_of c.in-Some.ensures.items

pub returns-clause-of : goal.returns-clause-of
returns-clause-of g c = λ b of. all_behind (λ a. IsReaderOf (words_of (first_of b)) a.reader) c.args.self.now.lists.asked.items _ c.pop_front.new.self.items c.in-Some.ensures.items of
