use Rattle.il_machine.specs.Whole.{StepsWhere}
use Rattle.il_graph.specs.Shown.{KeepsAllFiles}
use Rattle.play_build_laws.specs.Halting.{KeepsFiles}
use Rattle.play_graph.specs.Graphs.{kept_of}
use Rattle.play_graph.specs.Stops.{HasCleared}
use Rattle.play_graph.proofs.stopping.clearing.clear_links.Given as goal

abbrev pub invariant-loop-link : goal.invariant-loop-link
invariant-loop-link g l = record {
  steps : StepsWhere (kept_of l.fn.graph) (kept_of l.graph) (HasCleared l.plan 0) (λ w v. HasCleared l.plan l.link v × KeepsFiles w v);
  files : KeepsAllFiles l.fn.graph l.graph;
}
