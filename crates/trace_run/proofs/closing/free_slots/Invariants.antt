use Rattle.std.proofs.Common.{vec_len}
use Rattle.trace_run.specs.Standing.{graph_kept}
use Rattle.trace_run.specs.Closing.{CanFree}
use Rattle.trace_run.proofs.closing.free_slots.Given as goal

abbrev pub invariant-loop-slot : goal.invariant-loop-slot
invariant-loop-slot l = CanFree (graph_kept l.graph) l.rest.items

abbrev pub decreases-loop-slot : goal.decreases-loop-slot
decreases-loop-slot l = vec_len l.rest
