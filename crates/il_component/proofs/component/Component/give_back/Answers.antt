use Rattle.std.proofs.Common.{◌≡◌, length, map, false, None, refl, sym, ◌∙◌, ap}
use Rattle.std.proofs.lemmas.List.{take_at, length-map}
use Rattle.il_machine.specs.Due.{unheld}
use Rattle.il_component.specs.Entries.{Entry}
use Rattle.il_component.proofs.Fit.{fit_again}
use Rattle.il_component.proofs.Ports.{unheld_places}
use Rattle.il_component.proofs.Calm.{busy_unheld}
use Rattle.il_component.proofs.component.Component.give_back.Goals as goal

pub invariant_of-self : goal.invariant_of-self
invariant_of-self g c =
    let i = c.self.inside in
    let e : Entry (g.row.C.Denot) = record { handle = i.handle; settings = i.params; state = i.state; pending = i.pending; loss_mark = i.loss_mark; holds = i.holds; waiting = i.waiting; work = i.work; file = i.file; part = record { ended_inputs = i.ended_inputs.items; ended = i.ended; failed = i.failed }; ports = i.ports.items; queues = i.notes } in
    let same : length c.let_all_go.new.ports ≡ length i.ports.items = c.let_all_go.auto.ports ∙ ap length c.deref_mut.ensures.value in
    let changed : c.let_all_go.new.ports ≡ map unheld i.ports.items = c.let_all_go.ensures ∙ ap (map unheld) c.deref_mut.ensures.value in (
      rw (take_at c.let_all_go.new.ports _ _ (same ∙ sym i.ports.ok.0), changed)
          (fit_again e (record e { holds = false; waiting = None; ports = map unheld i.ports.items }) c.self.invariant.0 refl (length-map i.ports.items unheld) (unheld_places i.ports.items) refl refl refl refl),
      rw (take_at c.let_all_go.new.ports _ _ (same ∙ sym i.ports.ok.0), changed) (busy_unheld i.ports.items i.busy c.self.invariant.1),
    )
