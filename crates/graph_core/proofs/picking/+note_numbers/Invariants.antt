use Rattle.std.proofs.Common.{length}
use Rattle.graph_core.proofs.picking.+note_numbers.Given as goal

abbrev pub decreases-note_numbers : goal.decreases-note_numbers
decreases-note_numbers l = length l.places.now
