use Rattle.std.proofs.Common.{length}
use Rattle.std.specs.Prelude.{IsSome}
use Rattle.port_stock.specs.Kept.{stocked}
use Rattle.graph_core.specs.Ending.{LeavesOthers}
use Rattle.graph_core.proofs.ending.end_notes.Given as goal

abbrev pub invariant-loop : goal.invariant-loop
invariant-loop g l = record {
  client : IsSome l.component.queues.client;
  others : LeavesOthers l.fn.component (stocked l.fn.stock) l.component (stocked l.stock);
}

abbrev pub decreases-loop : goal.decreases-loop
decreases-loop g l = length l.component.queues.notes
