use Rattle.il_machine.specs.Whole.{StepsWhere}
use Rattle.il_graph.specs.Shown.{KeepsAllFiles, look_of}
use Rattle.play_build_laws.specs.Halting.{HasEvents, IsSameButNotes, notes_at}
use Rattle.play_graph.specs.Graphs.{kept_of}
use Rattle.play_graph.proofs.stopping.noting.take_notes.Given as goal

abbrev pub invariant-loop : goal.invariant-loop
invariant-loop g l = record {
  steps : StepsWhere (kept_of l.fn.graph) (kept_of l.graph) (HasEvents l.place) (λ w v. HasEvents l.place v × IsSameButNotes w v);
  files : KeepsAllFiles l.fn.graph l.graph;
}

abbrev pub decreases-loop : goal.decreases-loop
decreases-loop g l = notes_at l.place (look_of l.graph)
