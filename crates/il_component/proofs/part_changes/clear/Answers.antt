use Rattle.std.proofs.Common.{sym, ◌∙◌}
use Rattle.il_component.proofs.Each.{until_none}
use Rattle.il_component.proofs.Ports.{clear_flag, until_cleared, clear_step}
use Rattle.il_component.proofs.part_changes.clear.Goals as goal

pub loop-flag-init : goal.loop-flag-init
loop-flag-init c = sym (until_none clear_flag 0 c.args.flags.now)

pub loop-flag-preserved : goal.loop-flag-preserved
loop-flag-preserved c = clear_step c.loop-flag.flag-index c.args.flags.now c.loop-flag.flags c.loop-flag.invariant c.loop-flag-test.true

pub returns : goal.returns
returns c = c.loop-flag.invariant ∙ until_cleared c.loop-flag.flag-index 0 c.args.flags.now c.loop-flag-test.false
