use Rattle.std.proofs.Common.{◌∙◌, ◌++◌, ◌∷◌, [], ap, arith}
use Rattle.port_stock.specs.declared.port.Port.{Port}
use Rattle.port_stock.proofs.Finding.{new_next}
use Rattle.port_stock.proofs.ports.push.Goals as goal

pub loop-port-preserved : goal.loop-port-preserved
loop-port-preserved c = record {
  items = new_next c.args.component c.loop-port.port c.args.ports.now.items c.loop-port.ports.items _ c.loop-port.invariant.items (c.push_reserved.ensures.items ∙ ap (λ (p : Port). c.loop-port.ports.items ++ p ∷ []) c.in_ok-made.ensures);
  len = omega arith;
  capacity = omega arith;
}
