use Rattle.std.proofs.Common.{arith}
use Rattle.clock_core.proofs.Masks.{port-below}
use Rattle.clock_core.proofs.motion.without_port.Goals as goal

pub overflow_shl-result : goal.overflow_shl-result
overflow_shl-result c = port-below c.args.ports c.args.port (omega arith) c.requires

pub overflow_cast-result : goal.overflow_cast-result
overflow_cast-result c = grind (arith, port-below c.args.ports c.args.port (omega arith) c.requires)
