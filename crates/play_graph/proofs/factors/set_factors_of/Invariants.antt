use Rattle.play_build_laws.specs.Stages.{Factoring}
use Rattle.play_graph.specs.Making.{GoesOn}
use Rattle.play_graph.proofs.factors.set_factors_of.Given as goal

abbrev pub invariant-loop-input : goal.invariant-loop-input
invariant-loop-input g l = GoesOn l.plan (Factoring l.place 0) (Factoring l.place l.input) l.fn.graph l.graph
