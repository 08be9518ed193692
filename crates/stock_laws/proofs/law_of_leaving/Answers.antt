use Rattle.stock_laws.proofs.Leaving.{pull_stands, send_stands}
use Rattle.stock_laws.proofs.law_of_leaving.Goals as goal

pub returns-clause-todo : goal.returns-clause-todo
returns-clause-todo c = pull_stands

pub returns-clause-done : goal.returns-clause-done
returns-clause-done c = send_stands
