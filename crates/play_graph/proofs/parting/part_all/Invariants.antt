use Rattle.il_machine.specs.Whole.{StepsWhere}
use Rattle.il_graph.specs.Shown.{KeepsAllFiles}
use Rattle.play_build_laws.specs.Dismantling.{IsSameButPorts}
use Rattle.play_graph.specs.Graphs.{kept_of}
use Rattle.play_plan_laws.specs.Endings.{HasParted}
use Rattle.play_graph.proofs.parting.part_all.Given as goal

abbrev pub invariant-loop-link : goal.invariant-loop-link
invariant-loop-link g l = record {
  steps : StepsWhere (kept_of l.fn.graph) (kept_of l.graph) (HasParted l.plan 0) (λ w v. HasParted l.plan l.link v × IsSameButPorts w v);
  files : KeepsAllFiles l.fn.graph l.graph;
}
