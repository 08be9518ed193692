use Rattle.pass_book.proofs.Keeping.{moves_on}
use Rattle.play_worker.proofs.moving.supply_all.Goals as goal

pub loop-port-preserved : goal.loop-port-preserved
loop-port-preserved g c =
    let b = c.args.board.now in
    let seats = c.args.seats.now in
    moves_on g.C.Client.progress b seats c.args.book.now c.loop-port.book c.release-released.new.self c.loop-port.invariant
    (moves_on g.C.Client.progress b seats c.loop-port.book c.supply-supplied.new.self c.release-released.new.self c.supply-supplied.ensures.moves c.release-released.ensures.moves)
