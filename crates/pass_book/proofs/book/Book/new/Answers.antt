use Rattle.std.proofs.Common.{refl}
use Rattle.pass_book.proofs.Keeping.{fresh_book}
use Rattle.pass_book.proofs.book.Book.new.Goals as goal

pub returns-clause-book : goal.returns-clause-book
returns-clause-book g c = λ b seats F. fresh_book b seats _ c.args.pass c.args.number c.args.log c.args.row F refl refl refl refl
