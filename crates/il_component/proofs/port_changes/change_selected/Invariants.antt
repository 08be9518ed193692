use Rattle.std.proofs.Common.{◌≡◌}
use Rattle.il_component.proofs.Each.{each_until}
use Rattle.il_component.proofs.Ports.{if_selected}
use Rattle.il_component.proofs.port_changes.change_selected.Given as goal

abbrev pub invariant-loop-index : goal.invariant-loop-index
invariant-loop-index l = l.ports ≡ each_until (if_selected l.sel l.change) l.index 0 l.fn.ports
