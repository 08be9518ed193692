use Rattle.std.proofs.Common.{◌≡◌, drop}
use Rattle.il_machine.specs.World.{ports_of}
use Rattle.il_component.specs.Entries.{component_of}
use Rattle.port_stock.specs.Kept.{stocked}
use Rattle.port_rules.specs.Claiming.{claim_test, port_where}
use Rattle.port_rules.proofs.claiming.first_port.Given as goal

abbrev pub invariant-loop-index : goal.invariant-loop-index
invariant-loop-index g l =
    let c = component_of l.component in
    let test = claim_test l.test (stocked l.stock).headers c in
    port_where test (ports_of c) ≡ port_where test (drop l.index (ports_of c))
