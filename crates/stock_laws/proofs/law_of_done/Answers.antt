use Rattle.stock_laws.proofs.Composed.{send_put, send_put_back, send_put_cleared, send_give, send_unmade}
use Rattle.stock_laws.proofs.law_of_done.Goals as goal

pub returns-clause-put : goal.returns-clause-put
returns-clause-put c = send_put

pub returns-clause-unchanged : goal.returns-clause-unchanged
returns-clause-unchanged c = send_put_back

pub returns-clause-cleared : goal.returns-clause-cleared
returns-clause-cleared c = send_put_cleared

pub returns-clause-given : goal.returns-clause-given
returns-clause-given c = send_give

pub returns-clause-unmade : goal.returns-clause-unmade
returns-clause-unmade c = send_unmade
