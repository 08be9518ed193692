use Rattle.std.proofs.Common.{length}
use Rattle.il_graph.proofs.graph.preparing.+set_factors.Given as goal

abbrev pub decreases-set_factors : goal.decreases-set_factors
decreases-set_factors g l = length l.factors.now
