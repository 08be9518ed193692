use Rattle.std.proofs.Common.{◌≡◌}
use Rattle.il_component.proofs.Each.{each_until}
use Rattle.il_component.proofs.Ports.{let_go}
use Rattle.il_component.proofs.port_changes.let_all_go.Given as goal

abbrev pub invariant-loop-port : goal.invariant-loop-port
invariant-loop-port l = l.ports ≡ each_until let_go l.port-index 0 l.fn.ports
