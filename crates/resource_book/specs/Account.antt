-- A book as a contract sees it.
use Rattle.std.specs.Prelude.{ℕ, ◌≤◌, List}
use Rattle.resource_book.specs.declared.row.Row.{Row}
use Rattle.resource_book.specs.Rows.{units_held, AreRising}

pub record Account : Type 0 where
  -- how many units there are
  pub units : ℕ
  -- what each component has that holds units or waits, in the order of the components' numbers
  pub rows : List Row
  -- how many waits were numbered
  pub numbered : ℕ

pub record IsSound (b : Account) : Type 0 where
  pub rising : AreRising b.rows
  -- no more units are held than there are
  pub covered : units_held b.rows ≤ b.units
