use Rattle.std.proofs.Common.{◌≡◌}
use Rattle.il_component.proofs.Each.{each_until}
use Rattle.il_component.proofs.Ports.{rested}
use Rattle.il_component.proofs.port_changes.put_at_rest.Given as goal

abbrev pub invariant-loop-port : goal.invariant-loop-port
invariant-loop-port l = l.ports ≡ each_until rested l.port-index 0 l.fn.ports
