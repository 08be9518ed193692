use Rattle.std.proofs.Common.{length}
use Rattle.il_graph.proofs.graph.preparing.+set_formats.Given as goal

abbrev pub decreases-set_formats : goal.decreases-set_formats
decreases-set_formats g l = length l.settings.now
