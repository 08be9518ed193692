use Rattle.std.proofs.Common.{arith}
use Rattle.std.proofs.lemmas.Grind.{common_steps}
use Rattle.clock_core.proofs.Masks.{no_port-above}
use Rattle.clock_core.proofs.motion.holds_port.Goals as goal

pub returns-else-port-lt8 : goal.returns-else-port-lt8
returns-else-port-lt8 c =
    rw (no_port-above c.args.ports c.args.port (omega arith) c.if-port-lt8.false) (grind (arith, common_steps))
