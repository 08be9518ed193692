use Rattle.il_graph.specs.Shown.{KeepsAllFiles}
use Rattle.play_build_laws.specs.Stages.{Joining}
use Rattle.play_graph.specs.Making.{GoesOn}
use Rattle.play_graph.proofs.tunnels.join_all.Given as goal

abbrev pub invariant-loop-link : goal.invariant-loop-link
invariant-loop-link g l = record {
  goes : GoesOn l.plan (Joining 0) (Joining l.link) l.fn.graph l.graph;
  files : KeepsAllFiles l.fn.graph l.graph;
}
