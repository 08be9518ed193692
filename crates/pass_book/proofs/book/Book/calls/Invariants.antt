use Rattle.std.proofs.Common.{◌≡◌, ◌≤◌, length, take, vec_capacity}
use Rattle.pass_book.proofs.Calling.{AreMade}
use Rattle.pass_book.proofs.book.Book.calls.Given as goal

abbrev pub invariant-loop-i : goal.invariant-loop-i
invariant-loop-i g l =
    AreMade g.C.Client.progress l.board l.seats l.fn.self l.self (take l.i l.asked) l.told.items × (length l.told.items ≡ l.i) × (vec_capacity l.fn.told ≤ vec_capacity l.told)
