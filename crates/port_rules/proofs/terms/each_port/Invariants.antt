use Rattle.std.proofs.Common.{◌≡◌, drop}
use Rattle.std.specs.List.{list_all}
use Rattle.il_machine.specs.Due.{each_port}
use Rattle.il_machine.specs.World.{ports_of}
use Rattle.il_component.specs.Entries.{component_of}
use Rattle.port_stock.specs.Kept.{stocked}
use Rattle.port_rules.specs.Tests.{port_test}
use Rattle.port_rules.proofs.terms.each_port.Given as goal

abbrev pub invariant-loop-index : goal.invariant-loop-index
invariant-loop-index g l =
    let test = port_test l.test (stocked l.stock).headers in
    each_port (component_of l.component) test ≡ list_all test (drop l.index (ports_of (component_of l.component)))
