use Rattle.std.proofs.Common.{◌≡◌, drop}
use Rattle.port_stock.specs.Kept.{unmarked_of}
use Rattle.port_stock.specs.Entries.{headers_of}
use Rattle.port_stock.proofs.entries.first_unmarked.Given as goal

-- the first of those that are left is the first of all
abbrev pub invariant-loop-place : goal.invariant-loop-place
invariant-loop-place l = unmarked_of (headers_of l.entries) l.todo.items ≡ unmarked_of (headers_of l.entries) (drop l.place l.todo.items)
