use Rattle.std.proofs.Common.{◌≡◌, ◌≤◌, take, filter}
use Rattle.resource_book.specs.Rows.{units_held, is_returning}
use Rattle.resource_book.proofs.book.units_returning.Given as goal

abbrev pub invariant-loop-row : goal.invariant-loop-row
invariant-loop-row l = record {
  count : l.units ≡ units_held (filter is_returning (take l.row-index l.rows));
  bound : l.units ≤ units_held (take l.row-index l.rows);
}
