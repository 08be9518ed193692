use Rattle.std.proofs.Common.{length}
use Rattle.graph_core.proofs.picking.+pick_ports.Given as goal

abbrev pub decreases-pick_ports : goal.decreases-pick_ports
decreases-pick_ports l = length l.gives.now
