use Rattle.std.proofs.Common.{◌≡◌, drop}
use Rattle.il_component.specs.PortChanges.{busy_test, busy_among}
use Rattle.il_component.proofs.port_changes.first_busy.Given as goal

abbrev pub invariant-loop-index : goal.invariant-loop-index
invariant-loop-index l = busy_among 0 l.sel (busy_test l.busy) l.ports ≡ busy_among l.index l.sel (busy_test l.busy) (drop l.index l.ports)
