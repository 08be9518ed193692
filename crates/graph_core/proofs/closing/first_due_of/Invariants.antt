use Rattle.std.proofs.Common.{◌-◌}
use Rattle.port_stock.specs.Kept.{stocked}
use Rattle.graph_core.specs.Marking.{AreMarked}
use Rattle.graph_core.proofs.Happens.{NoneBefore}
use Rattle.graph_core.proofs.closing.first_due_of.Given as goal

abbrev pub invariant-loop-place : goal.invariant-loop-place
invariant-loop-place g l = record { marks : AreMarked l.components l.marked; before : NoneBefore (stocked l.stock).headers l.components l.from }

abbrev pub decreases-loop-place : goal.decreases-loop-place
decreases-loop-place g l = 32 - l.from
