use Rattle.pass_book.proofs.Keeping.{moves_on}
use Rattle.play_worker.proofs.moving.bring_on.Goals as goal

pub returns : goal.returns
returns g c =
    let b = c.args.board.now in
    let seats = c.args.seats.now in
    moves_on g.C.Client.progress b seats c.args.book.now c.deliver-noted.new.self c.supply_all-supplied.new.book c.deliver-noted.ensures.moves
    (moves_on g.C.Client.progress b seats c.deliver-noted.new.self c.run_command-ran.new.self c.supply_all-supplied.new.book c.run_command-ran.ensures.moves c.supply_all-supplied.ensures)
