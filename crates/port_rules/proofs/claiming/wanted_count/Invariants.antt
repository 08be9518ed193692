use Rattle.std.proofs.Common.{◌≡◌, ◌+◌, ◌≤◌, length, filter, drop}
use Rattle.il_machine.specs.World.{ports_of}
use Rattle.il_machine.specs.Claims.{gives_header}
use Rattle.il_component.specs.Entries.{component_of}
use Rattle.port_rules.proofs.claiming.wanted_count.Given as goal

abbrev pub invariant-loop-index : goal.invariant-loop-index
invariant-loop-index g l =
    let c = component_of l.component in
    record { all : length (filter (gives_header c) (ports_of c)) ≡ l.count + length (filter (gives_header c) (drop l.index (ports_of c))); few : l.count ≤ l.index }
