use Rattle.std.proofs.Common.{◌≡◌}
use Rattle.board.specs.Boards.{IsOf, pass_view}
use Rattle.board_bench.proofs.looks.look_on.Given as goal

abbrev pub invariant-loop : goal.invariant-loop
invariant-loop l = IsOf l.board l.pass × (pass_view l.pass ≡ pass_view l.fn.pass)
