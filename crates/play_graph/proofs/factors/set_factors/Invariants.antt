use Rattle.play_build_laws.specs.Stages.{Factoring}
use Rattle.play_graph.specs.Making.{GoesOn}
use Rattle.play_graph.proofs.factors.set_factors.Given as goal

abbrev pub invariant-loop-place : goal.invariant-loop-place
invariant-loop-place g l = GoesOn l.plan (Factoring 0 0) (Factoring l.place 0) l.fn.graph l.graph
