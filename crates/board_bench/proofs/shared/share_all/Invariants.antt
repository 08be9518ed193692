use Rattle.turnstile.specs.Passes.{IsSamePass}
use Rattle.board.specs.Boards.{pass_view, IsOf}
use Rattle.board_uses.specs.Passing.{HoldsNothing}
use Rattle.board_bench.proofs.shared.share_all.Given as goal

abbrev pub invariant-loop-h : goal.invariant-loop-h
invariant-loop-h g l = IsOf l.board l.pass × IsSamePass (pass_view l.fn.pass) (pass_view l.pass) × HoldsNothing g.C.Client.progress l.pass

abbrev pub invariant-loop : goal.invariant-loop
invariant-loop g l = IsOf l.board l.pass × IsSamePass (pass_view l.fn.pass) (pass_view l.pass) × HoldsNothing g.C.Client.progress l.pass
