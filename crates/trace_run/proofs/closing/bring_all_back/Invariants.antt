use Rattle.std.proofs.Common.{vec_len}
use Rattle.trace_run.specs.Standing.{graph_kept}
use Rattle.trace_run.specs.Works.{BringAllBack}
use Rattle.trace_run.proofs.closing.bring_all_back.Given as goal

abbrev pub invariant-loop-work : goal.invariant-loop-work
invariant-loop-work l = BringAllBack (graph_kept l.fn.graph) l.initial.rest.items (graph_kept l.graph) l.rest.items

abbrev pub decreases-loop-work : goal.decreases-loop-work
decreases-loop-work l = vec_len l.rest
