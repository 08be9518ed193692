use Rattle.std.proofs.Common.{subst, sym}
use Rattle.pass_book.specs.Moves.{Moves}
use Rattle.pass_book.proofs.Keeping.{moves_on}
use Rattle.play_worker.proofs.moving.hand_all.Goals as goal
use Rattle.play_worker.proofs.moving.hand_all.Goals.{then-port-inputs, else-port-inputs}

pub loop-port-preserved : goal.loop-port-preserved
loop-port-preserved g c =
    let b = c.args.board.now in
    let seats = c.args.seats.now in
    moves_on g.C.Client.progress b seats c.args.book.now c.loop-port.book c.if-port-inputs.book c.loop-port.invariant
    (elim c.if-port-inputs.branch [
      | then-port-inputs w ↦ subst (Moves g.C.Client.progress b seats c.loop-port.book) (sym w.book-is) w.hand_over-handed.ensures.moves
      | else-port-inputs w ↦ subst (Moves g.C.Client.progress b seats c.loop-port.book) (sym w.book-is) w.hand_back-handed.ensures.moves
    ])
