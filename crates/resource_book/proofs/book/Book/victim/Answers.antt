use Rattle.resource_book.proofs.First.{victim-first}
use Rattle.resource_book.proofs.book.Book.victim.Goals as goal

pub returns-clause-greatest : goal.returns-clause-greatest
returns-clause-greatest c = victim-first c.args.self.now.rows
