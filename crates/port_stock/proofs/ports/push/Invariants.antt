use Rattle.std.proofs.Common.{◌≡◌, ◌+◌, ◌++◌, vec_len, vec_capacity}
use Rattle.port_stock.specs.Rings.{new_ports}
use Rattle.port_stock.proofs.ports.push.Given as goal

abbrev pub invariant-loop-port : goal.invariant-loop-port
invariant-loop-port l = record {
  items : l.ports.items ≡ l.initial.ports.items ++ new_ports l.component 0 l.port;
  len : vec_len l.ports ≡ vec_len l.initial.ports + l.port;
  capacity : vec_capacity l.ports ≡ vec_capacity l.initial.ports;
}
