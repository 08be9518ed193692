use Rattle.std.proofs.Common.{vec_len}
use Rattle.std.specs.Prelude.{IsSome}
use Rattle.port_stock.specs.Kept.{stocked}
use Rattle.port_stock.specs.Entries.{Each}
use Rattle.graph_core.specs.Entries.{noticed_in}
use Rattle.graph_core.specs.Ending.{AreOutside}
use Rattle.graph_core.proofs.ending.end_all.Given as goal

abbrev pub invariant-loop-component : goal.invariant-loop-component
invariant-loop-component g l = record {
  held : AreOutside (noticed_in l.components.items) (stocked l.stock);
  clients : Each (λ e. IsSome e.queues.client) l.components.items;
}

abbrev pub decreases-loop-component : goal.decreases-loop-component
decreases-loop-component g l = vec_len l.components
