use Rattle.std.proofs.Common.{drop}
use Rattle.il_machine.specs.Due.{reset_ports}
use Rattle.il_machine.specs.World.{ports_of}
use Rattle.il_component.specs.Entries.{component_of}
use Rattle.port_stock.specs.Kept.{stocked}
use Rattle.flush_mark.proofs.ResetSteps.{Begun}
use Rattle.port_rules.proofs.happening.reset_ports.Given as goal

abbrev pub invariant-loop-index : goal.invariant-loop-index
invariant-loop-index g l =
    let ports = ports_of (component_of l.component) in
    Begun (reset_ports ports) (reset_ports (drop l.index ports)) (stocked l.fn.stock) (stocked l.stock)
