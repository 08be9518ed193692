use Rattle.pass_book.specs.Moves.{Moves}
use Rattle.play_worker.proofs.moving.supply_all.Given as goal

abbrev pub invariant-loop-port : goal.invariant-loop-port
invariant-loop-port g l = Moves g.C.Client.progress l.board l.seats l.fn.book l.book
