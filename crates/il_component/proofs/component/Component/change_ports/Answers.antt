use Rattle.std.proofs.Common.{◌≡◌, length, ◌∙◌, sym, ap}
use Rattle.std.proofs.lemmas.List.{take_at}
use Rattle.il_machine.specs.Commands.{selected_from}
use Rattle.il_component.specs.PortChanges.{changed_by}
use Rattle.il_component.proofs.Fit.{used-resettled}
use Rattle.il_component.proofs.component.Component.change_ports.Goals as goal

pub hold-requires-clause-fits : goal.hold-requires-clause-fits
hold-requires-clause-fits g c =
    let asked = rw (← c.self.view_is) at c.requires in
    let same : length c.change_selected.new.ports ≡ length c.self.inside.ports.items = c.change_selected.auto.ports ∙ ap length c.deref_mut.ensures.value in
    let changed : c.change_selected.new.ports ≡ selected_from 0 c.args.sel (changed_by c.args.change) c.self.inside.ports.items = c.change_selected.ensures ∙ ap (selected_from 0 c.args.sel (changed_by c.args.change)) c.deref_mut.ensures.value in
    rw (c.deref-2.ensures.value, take_at c.change_selected.new.ports _ _ (same ∙ sym c.self.inside.ports.ok.0))
    (rw (changed, ← used-resettled _ c.self.invariant.0 c.self.inside.state c.self.inside.pending c.self.inside.loss_mark _ (rw changed at same)) asked)
