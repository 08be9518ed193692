use Rattle.stock_laws.proofs.Leaving.{front_of_todo, front_of_done}
use Rattle.stock_laws.proofs.law_of_fronts.Goals as goal

pub returns-clause-todo : goal.returns-clause-todo
returns-clause-todo c = front_of_todo

pub returns-clause-done : goal.returns-clause-done
returns-clause-done c = front_of_done
