use Rattle.play_build_laws.specs.Stages.{Making}
use Rattle.play_graph.specs.Making.{GoesOn}
use Rattle.play_graph.proofs.components.make_components.Given as goal

abbrev pub invariant-loop-place : goal.invariant-loop-place
invariant-loop-place g l = GoesOn l.plan (Making 0) (Making l.place) l.fn.graph l.graph
