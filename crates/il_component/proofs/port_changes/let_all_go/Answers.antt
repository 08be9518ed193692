use Rattle.std.proofs.Common.{sym, ◌∙◌}
use Rattle.il_component.proofs.Each.{until_none}
use Rattle.il_component.proofs.Ports.{let_go, until_let_go, let_go_step}
use Rattle.il_component.proofs.port_changes.let_all_go.Goals as goal

pub loop-port-init : goal.loop-port-init
loop-port-init c = sym (until_none let_go 0 c.args.ports.now)

pub loop-port-preserved : goal.loop-port-preserved
loop-port-preserved c = let_go_step c.loop-port.port-index c.args.ports.now c.loop-port.ports _ c.loop-port.invariant c.loop-port-test.true

pub returns : goal.returns
returns c = c.loop-port.invariant ∙ until_let_go c.loop-port.port-index 0 c.args.ports.now c.loop-port-test.false
