use Rattle.std.proofs.Common.{◌≡◌, ◌*◌, ◌≤◌, take, sum_by}
use Rattle.il_machine.specs.Room.{port_reserve}
use Rattle.il_component.proofs.port_changes.all_port_reserves.Given as goal

abbrev pub invariant-loop-port : goal.invariant-loop-port
invariant-loop-port l = record { count : l.places ≡ sum_by port_reserve (take l.port-index l.ports); few : l.places ≤ 3 * l.port-index }
