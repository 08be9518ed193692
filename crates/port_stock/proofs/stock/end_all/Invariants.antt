use Rattle.std.proofs.Common.{vec_len}
use Rattle.port_stock.specs.Ending.{AreEnding}
use Rattle.port_stock.proofs.stock.end_all.Given as goal

abbrev pub invariant-loop-entry : goal.invariant-loop-entry
invariant-loop-entry l = AreEnding l.region l.entries.items

abbrev pub decreases-loop-entry : goal.decreases-loop-entry
decreases-loop-entry l = vec_len l.entries
