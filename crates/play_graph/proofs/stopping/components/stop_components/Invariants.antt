use Rattle.il_machine.specs.Whole.{StepsWhere}
use Rattle.il_graph.specs.Shown.{KeepsAllFiles}
use Rattle.play_build_laws.specs.Halting.{KeepsFiles}
use Rattle.play_graph.specs.Graphs.{kept_of}
use Rattle.play_graph.specs.Stops.{HasStopped}
use Rattle.play_graph.proofs.stopping.components.stop_components.Given as goal

abbrev pub invariant-loop-place : goal.invariant-loop-place
invariant-loop-place g l = record {
  steps : StepsWhere (kept_of l.fn.graph) (kept_of l.graph) (HasStopped l.plan 0) (λ w v. HasStopped l.plan l.place v × KeepsFiles w v);
  files : KeepsAllFiles l.fn.graph l.graph;
}
