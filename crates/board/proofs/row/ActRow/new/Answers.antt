use Rattle.std.proofs.Common.{◌∙◌, sym, ap, arith}
use Rattle.board.specs.Rows.{acts_of, replies_of}
use Rattle.board.proofs.row.ActRow.new.Goals as goal

pub invariant_of-result : goal.invariant_of-result
invariant_of-result g c =
    let exact = c.in_ok-asked.ensures.exact in
    let few = c.requires in
    let none = c.in-Ok.ensures.len in
    record { room = exact ∙ sym c.in-Ok.ensures.exact; few = omega arith; early = omega arith }

pub returns-in-Ok-clause-empty : goal.returns-in-Ok-clause-empty
returns-in-Ok-clause-empty g c = (ap acts_of c.in_ok-asked.ensures.items, ap replies_of c.in-Ok.ensures.items, c.in_ok-asked.ensures.exact)
