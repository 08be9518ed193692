use Rattle.stock_laws.proofs.Clearing.{clear_todo_stands, clear_done_stands}
use Rattle.stock_laws.proofs.law_of_clearing.Goals as goal

pub returns-clause-todo : goal.returns-clause-todo
returns-clause-todo c = clear_todo_stands

pub returns-clause-done : goal.returns-clause-done
returns-clause-done c = clear_done_stands
