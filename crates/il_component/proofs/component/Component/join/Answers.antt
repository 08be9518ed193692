use Rattle.std.proofs.Common.{◌<◌, length, Some, refl, sym, subst, ◌∙◌, ap}
use Rattle.il_component.proofs.Named.{at_port_read, linked_fit, set_whole}
use Rattle.std.proofs.lemmas.Option.{slice_get-get_or}
use Rattle.il_component.proofs.Calm.{busy_set}
use Rattle.il_component.specs.PortChanges.{with_link}
use Rattle.il_component.proofs.component.Component.join.Goals as goal

pub invariant_of-self : goal.invariant_of-self
invariant_of-self g c =
    let i = c.self.inside in
    let b : c.args.index < length i.ports.items = subst (λ n. c.args.index < n) (sym c.self.invariant.0.ports) (rw (← c.self.view_is) at c.requires) in
    let old = c.index_mut.result.now in (
      linked_fit (record { handle = i.handle; settings = i.params; state = i.state; pending = i.pending; loss_mark = i.loss_mark; holds = i.holds; waiting = i.waiting; work = i.work; file = i.file; part = record { ended_inputs = i.ended_inputs.items; ended = i.ended; failed = i.failed }; ports = i.ports.items; queues = i.notes }) c.args.index c.set_setting.new.self (Some c.args.link) c.index_mut.result.now c.self.invariant.0 b c.index_mut.ensures.value (rw c.set_setting.ensures (set_whole i.params c.args.index c.args.setting c.self.invariant.0.whole)) (rw c.set_setting.ensures refl),
      busy_set i.ports.items i.busy c.args.index old (with_link (Some c.args.link) old) c.self.invariant.1 (slice_get-get_or i.ports.items c.args.index old b ∙ ap Some (sym c.index_mut.ensures.value)) refl,
    )

pub returns-clause-component : goal.returns-clause-component
returns-clause-component g c =
    let i = c.self.inside in
    let b : c.args.index < length i.ports.items = subst (λ n. c.args.index < n) (sym c.self.invariant.0.ports) (rw (← c.self.view_is) at c.requires) in
    let q = at_port_read c.args.index (Some c.args.link) i.ports.items c.index_mut.result.now b c.index_mut.ensures.value in
    rw (← c.self.view_is, c.set_setting.ensures, q) refl
