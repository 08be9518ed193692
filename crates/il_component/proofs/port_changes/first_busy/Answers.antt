use Rattle.std.proofs.Common.{◌≡◌, ◌&&◌, false, get_or, ◌∙◌, refl}
use Rattle.il_machine.specs.World.{fresh_port}
use Rattle.il_machine.specs.Commands.{is_selected}
use Rattle.il_component.specs.PortChanges.{busy_test}
use Rattle.il_component.proofs.Ports.{busy_passed}
use Rattle.il_component.proofs.port_changes.first_busy.Goals as goal
use Rattle.il_component.proofs.port_changes.first_busy.Goals.{else-is_selected-via-then-is_selected+else-holds_at, else-is_selected-via-else-is_selected}

pub loop-index-preserved : goal.loop-index-preserved
loop-index-preserved c = elim c.else-is_selected.branch [
  | else-is_selected-via-then-is_selected+else-holds_at w ↦
      let n : is_selected c.args.sel c.loop-index.index && w.holds_at.result ≡ false = rw (← c.is_selected.ensures, w.if-is_selected.true, w.if-holds_at.false) refl in
      c.loop-index.invariant ∙ busy_passed c.args.sel (busy_test c.args.busy) c.loop-index.index c.args.ports.now _ w.holds_at.result c.loop-index-test.true w.holds_at.ensures n
  | else-is_selected-via-else-is_selected w ↦
      let here = busy_test c.args.busy (get_or c.args.ports.now c.loop-index.index fresh_port) in
      let n : is_selected c.args.sel c.loop-index.index && here ≡ false = rw (← c.is_selected.ensures, w.if-is_selected.false) refl in
      c.loop-index.invariant ∙ busy_passed c.args.sel (busy_test c.args.busy) c.loop-index.index c.args.ports.now fresh_port here c.loop-index-test.true refl n
]
