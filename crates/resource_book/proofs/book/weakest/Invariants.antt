use Rattle.std.proofs.Common.{◌≡◌, drop}
use Rattle.resource_book.specs.Rows.{weakest}
use Rattle.resource_book.proofs.book.weakest.Given as goal

abbrev pub invariant-loop-place : goal.invariant-loop-place
invariant-loop-place l = l.weak ≡ weakest l.waiter (drop l.place l.rows)
