use Rattle.il_graph.specs.Shown.{look_of}
use Rattle.trace_run.specs.Standing.{graph_kept}
use Rattle.trace_run.specs.Closing.{KeepMoments, StayEnded, notes_left}
use Rattle.trace_run.proofs.closing.take_notes.Given as goal

abbrev pub invariant-loop-h : goal.invariant-loop-h
invariant-loop-h l = record {
  stood : KeepMoments (graph_kept l.fn.graph) l.fn.slots.items (graph_kept l.graph) l.slots.items;
  stay : StayEnded (look_of l.fn.graph) (look_of l.graph);
}

abbrev pub decreases-loop-h : goal.decreases-loop-h
decreases-loop-h l = notes_left l.h (look_of l.graph)
