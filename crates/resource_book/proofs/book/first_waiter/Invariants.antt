use Rattle.std.proofs.Common.{◌≡◌, drop}
use Rattle.resource_book.specs.Rows.{first_waiter}
use Rattle.resource_book.proofs.book.first_waiter.Given as goal

abbrev pub invariant-loop-place : goal.invariant-loop-place
invariant-loop-place l = l.first ≡ first_waiter (drop l.place l.rows)
