use Rattle.std.proofs.Common.{◌<◌, length, set, sym, subst, refl, length-set, ◌∙◌, ap, Some}
use Rattle.il_component.specs.Entries.{Entry}
use Rattle.il_component.proofs.Fit.{fit_again}
use Rattle.il_component.proofs.Named.{held_state, places_held, port_is}
use Rattle.std.proofs.lemmas.Option.{slice_get-get_or}
use Rattle.il_component.proofs.Calm.{busy_set}
use Rattle.il_component.proofs.component.Component.hold_port.Goals as goal

pub invariant_of-self : goal.invariant_of-self
invariant_of-self g c =
    let i = c.self.inside in
    let e : Entry (g.row.C.Denot) = record { handle = i.handle; settings = i.params; state = i.state; pending = i.pending; loss_mark = i.loss_mark; holds = i.holds; waiting = i.waiting; work = i.work; file = i.file; part = record { ended_inputs = i.ended_inputs.items; ended = i.ended; failed = i.failed }; ports = i.ports.items; queues = i.notes } in
    let b : c.args.index < length i.ports.items = subst (λ n. c.args.index < n) (sym c.self.invariant.0.ports) (rw (← c.self.view_is) at c.requires) in
    let old = c.index_mut.result.now in (
      fit_again e (record e { ports = set i.ports.items c.args.index (held_state old) }) c.self.invariant.0 refl (length-set i.ports.items c.args.index (held_state old)) (places_held c.args.index i.ports.items old b c.index_mut.ensures.value) refl refl refl refl,
      busy_set i.ports.items i.busy c.args.index old (held_state old) c.self.invariant.1 (slice_get-get_or i.ports.items c.args.index old b ∙ ap Some (sym c.index_mut.ensures.value)) refl,
    )

pub returns-clause-component : goal.returns-clause-component
returns-clause-component g c =
    let i = c.self.inside in
    let e : Entry (g.row.C.Denot) = record { handle = i.handle; settings = i.params; state = i.state; pending = i.pending; loss_mark = i.loss_mark; holds = i.holds; waiting = i.waiting; work = i.work; file = i.file; part = record { ended_inputs = i.ended_inputs.items; ended = i.ended; failed = i.failed }; ports = i.ports.items; queues = i.notes } in
    let b : c.args.index < length i.ports.items = subst (λ n. c.args.index < n) (sym c.self.invariant.0.ports) (rw (← c.self.view_is) at c.requires) in
    let h = port_is e c.args.index c.index_mut.result.now c.self.invariant.0 b c.index_mut.ensures.value in
    rw (← c.self.view_is, h.1) refl
