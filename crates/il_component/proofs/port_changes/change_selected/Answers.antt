use Rattle.std.proofs.Common.{◌≡◌, true, false, sym, ◌∙◌}
use Rattle.il_machine.specs.Commands.{is_selected}
use Rattle.il_component.proofs.Each.{until_none}
use Rattle.il_component.proofs.Ports.{if_selected, until_selected, selected_step, other_step}
use Rattle.il_component.proofs.port_changes.change_selected.Goals as goal
use Rattle.il_component.proofs.port_changes.change_selected.Goals.{then-is_selected, else-is_selected}

pub loop-index-init : goal.loop-index-init
loop-index-init c = sym (until_none (if_selected c.args.sel c.args.change) 0 c.args.ports.now)

pub loop-index-preserved : goal.loop-index-preserved
loop-index-preserved c = elim c.if-is_selected.branch [
  | then-is_selected w ↦
      let t : is_selected c.args.sel c.loop-index.index ≡ true = sym c.is_selected.ensures ∙ w.if-is_selected.true in
      w.ports-is ∙ rw w.of.ensures (selected_step c.args.sel c.args.change c.loop-index.index c.args.ports.now c.loop-index.ports _ c.loop-index.invariant c.loop-index-test.true t)
  | else-is_selected w ↦
      let t : is_selected c.args.sel c.loop-index.index ≡ false = sym c.is_selected.ensures ∙ w.if-is_selected.false in
      w.ports-is ∙ other_step c.args.sel c.args.change c.loop-index.index c.args.ports.now c.loop-index.ports c.loop-index.invariant t
]

pub returns : goal.returns
returns c =
    c.loop-index.invariant ∙ until_selected c.args.sel c.args.change c.loop-index.index 0 c.args.ports.now c.loop-index-test.false
