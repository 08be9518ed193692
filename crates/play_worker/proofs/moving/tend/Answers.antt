use Rattle.std.proofs.Common.{subst, sym}
use Rattle.pass_book.specs.Moves.{Moves}
use Rattle.pass_book.proofs.Keeping.{moves_itself, moves_on}
use Rattle.play_worker.proofs.moving.tend.Goals as goal
use Rattle.play_worker.proofs.moving.tend.Goals.{then-not-executing, else-not-executing}

pub returns : goal.returns
returns g c =
    let b = c.args.board.now in
    let seats = c.args.seats.now in
    let looked = c.is_executing-executing.new.self in
    moves_on g.C.Client.progress b seats c.args.book.now looked c.hand_all-handed.new.book c.is_executing-executing.ensures.moves
    (moves_on g.C.Client.progress b seats looked c.if-not-executing.book c.hand_all-handed.new.book
    (elim c.if-not-executing.branch [
      | then-not-executing w ↦ subst (Moves g.C.Client.progress b seats looked) (sym w.book-is) w.bring_on-brought.ensures
      | else-not-executing w ↦ subst (Moves g.C.Client.progress b seats looked) (sym w.book-is) (moves_itself g.C.Client.progress b seats looked c.is_executing-executing.ensures.moves.goes_on.book)
    ])
    c.hand_all-handed.ensures)
