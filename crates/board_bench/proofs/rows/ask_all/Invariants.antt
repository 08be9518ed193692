use Rattle.board.specs.Boards.{IsOf}
use Rattle.board_uses.specs.Passing.{HoldsNothing}
use Rattle.board_bench.specs.Asking.{IsReady}
use Rattle.board_bench.proofs.rows.ask_all.Given as goal

abbrev pub invariant-loop-h : goal.invariant-loop-h
invariant-loop-h g l = IsOf l.board l.pass × HoldsNothing g.C.Client.progress l.pass × IsReady l.board l.row

abbrev pub invariant-loop : goal.invariant-loop
invariant-loop g l = IsOf l.board l.pass × HoldsNothing g.C.Client.progress l.pass × IsReady l.board l.row
