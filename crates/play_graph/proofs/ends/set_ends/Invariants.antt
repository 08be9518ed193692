use Rattle.std.proofs.Common.{false}
use Rattle.play_build_laws.specs.Stages.{Setting}
use Rattle.play_graph.specs.Making.{GoesOn}
use Rattle.play_graph.proofs.ends.set_ends.Given as goal

abbrev pub invariant-loop-link : goal.invariant-loop-link
invariant-loop-link g l = GoesOn l.plan (Setting 0 false) (Setting l.link false) l.fn.graph l.graph
