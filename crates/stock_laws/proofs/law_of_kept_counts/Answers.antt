use Rattle.stock_laws.proofs.Counts.{count_at, count_none, count_le, count_less, todo_counted, done_counted}
use Rattle.stock_laws.proofs.law_of_kept_counts.Goals as goal

pub returns-clause-counted : goal.returns-clause-counted
returns-clause-counted c = count_at

pub returns-clause-none : goal.returns-clause-none
returns-clause-none c = count_none

pub returns-clause-implied : goal.returns-clause-implied
returns-clause-implied c = count_le

pub returns-clause-fewer : goal.returns-clause-fewer
returns-clause-fewer c = count_less

pub returns-clause-todo : goal.returns-clause-todo
returns-clause-todo c = todo_counted

pub returns-clause-done : goal.returns-clause-done
returns-clause-done c = done_counted
