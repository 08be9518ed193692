use Rattle.std.proofs.Common.{false}
use Rattle.il_machine.specs.Whole.{StepsWhere}
use Rattle.il_graph.specs.Shown.{KeepsAllFiles, look_of}
use Rattle.play_build_laws.specs.Halting.{KeepsFiles, headers_at}
use Rattle.play_graph.specs.Graphs.{kept_of}
use Rattle.play_plan_laws.specs.Endings.{ends_of}
use Rattle.play_graph.specs.Stops.{HasCleared}
use Rattle.play_graph.proofs.stopping.clearing.bring_back.Given as goal

abbrev pub invariant-loop : goal.invariant-loop
invariant-loop g l = record {
  steps : StepsWhere (kept_of l.fn.graph) (kept_of l.graph) (HasCleared l.plan l.link) (λ w v. HasCleared l.plan l.link v × KeepsFiles w v);
  files : KeepsAllFiles l.fn.graph l.graph;
}

abbrev pub decreases-loop : goal.decreases-loop
decreases-loop g l = headers_at (ends_of l.plan false l.link) (look_of l.graph)
