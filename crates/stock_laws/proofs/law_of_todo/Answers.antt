use Rattle.stock_laws.proofs.Composed.{pull_put, pull_put_back, pull_put_cleared, pull_give, pull_give_on, pull_unmade}
use Rattle.stock_laws.proofs.law_of_todo.Goals as goal

pub returns-clause-put : goal.returns-clause-put
returns-clause-put c = pull_put

pub returns-clause-unchanged : goal.returns-clause-unchanged
returns-clause-unchanged c = pull_put_back

pub returns-clause-cleared : goal.returns-clause-cleared
returns-clause-cleared c = pull_put_cleared

pub returns-clause-given : goal.returns-clause-given
returns-clause-given c = pull_give

pub returns-clause-unmade : goal.returns-clause-unmade
returns-clause-unmade c = pull_unmade

pub returns-clause-given_on : goal.returns-clause-given_on
returns-clause-given_on c = pull_give_on
