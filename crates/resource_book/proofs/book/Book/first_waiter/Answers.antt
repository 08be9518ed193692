use Rattle.resource_book.proofs.First.{first_waiter-first}
use Rattle.resource_book.proofs.book.Book.first_waiter.Goals as goal

pub returns-clause-least : goal.returns-clause-least
returns-clause-least c = first_waiter-first c.args.self.now.rows
