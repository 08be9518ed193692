use Rattle.std.proofs.Common.{◌≡◌, ◌≤◌, ◌-◌, drop, length}
use Rattle.il_machine.specs.Lists.{first_of_these}
use Rattle.il_machine.specs.Due.{due_in, things_of}
use Rattle.il_machine.specs.World.{ports_of}
use Rattle.il_component.specs.Entries.{component_of}
use Rattle.port_stock.specs.Kept.{stocked}
use Rattle.port_rules.proofs.due.due_in.Given as goal

abbrev pub invariant-loop-index : goal.invariant-loop-index
invariant-loop-index g l =
    let headers = (stocked l.stock).headers in
    let c = component_of l.component in
    record {
      passed : due_in headers c ≡ first_of_these (things_of headers c (drop l.from (ports_of c)));
      within : l.from ≤ length (ports_of c);
    }

abbrev pub decreases-loop-index : goal.decreases-loop-index
decreases-loop-index g l = length (ports_of (component_of l.component)) - l.from
