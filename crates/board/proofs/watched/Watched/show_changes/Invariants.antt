use Rattle.board.specs.Showing.{ShowsUpTo}
use Rattle.board.proofs.watched.Watched.show_changes.Given as goal

abbrev pub invariant-loop-i : goal.invariant-loop-i
invariant-loop-i g l = ShowsUpTo g.C.Client.progress l.i l.fn.self l.self
