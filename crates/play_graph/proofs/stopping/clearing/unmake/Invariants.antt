use Rattle.std.proofs.Common.{true}
use Rattle.il_machine.specs.Whole.{StepsWhere}
use Rattle.il_graph.specs.Shown.{KeepsAllFiles, look_of}
use Rattle.play_build_laws.specs.Halting.{KeepsFiles, headers_at}
use Rattle.play_graph.specs.Graphs.{kept_of}
use Rattle.play_plan_laws.specs.Endings.{ends_of}
use Rattle.play_graph.specs.Stops.{HasBrought}
use Rattle.play_graph.proofs.stopping.clearing.unmake.Given as goal

abbrev pub invariant-loop : goal.invariant-loop
invariant-loop g l = record {
  steps : StepsWhere (kept_of l.fn.graph) (kept_of l.graph) (HasBrought l.plan l.link) (λ w v. HasBrought l.plan l.link v × KeepsFiles w v);
  files : KeepsAllFiles l.fn.graph l.graph;
}

abbrev pub decreases-loop : goal.decreases-loop
decreases-loop g l = headers_at (ends_of l.plan true l.link) (look_of l.graph)
