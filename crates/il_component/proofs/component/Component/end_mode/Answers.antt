use Rattle.std.proofs.Common.{◌≤◌, ◌<◌, length, sym, subst}
use Rattle.il_machine.specs.Room.{used}
use Rattle.il_component.specs.Entries.{Entry, component_of}
use Rattle.il_component.specs.PortChanges.{mode_ended}
use Rattle.il_component.proofs.Named.{at_port_is, port_is, steady_stays}
use Rattle.il_component.proofs.component.Component.end_mode.Goals.{in-Enabling, in-Disabling}
use Rattle.il_component.proofs.component.Component.end_mode.Goals as goal

pub returns-in-Steady-clause-component : goal.returns-in-Steady-clause-component
returns-in-Steady-clause-component g c =
    let i = c.self.inside in
    let e : Entry (g.row.C.Denot) = record { handle = i.handle; settings = i.params; state = i.state; pending = i.pending; loss_mark = i.loss_mark; holds = i.holds; waiting = i.waiting; work = i.work; file = i.file; part = record { ended_inputs = i.ended_inputs.items; ended = i.ended; failed = i.failed }; ports = i.ports.items; queues = i.notes } in
    let b : c.args.index < length i.ports.items = subst (λ n. c.args.index < n) (sym c.self.invariant.0.ports) (rw (← c.self.view_is) at c.requires.there) in
    let h = port_is e c.args.index c.index-port.result.now c.self.invariant.0 b c.index-port.ensures in
    rw (← c.self.view_is, h.1, c.in-Steady.is) (steady_stays (component_of e) c.args.index c.index-port.result.now c.index-port.ensures c.in-Steady.is)

pub end-requires-clause-fits : goal.end-requires-clause-fits
end-requires-clause-fits g c =
    let i = c.self.inside in
    let e : Entry (g.row.C.Denot) = record { handle = i.handle; settings = i.params; state = i.state; pending = i.pending; loss_mark = i.loss_mark; holds = i.holds; waiting = i.waiting; work = i.work; file = i.file; part = record { ended_inputs = i.ended_inputs.items; ended = i.ended; failed = i.failed }; ports = i.ports.items; queues = i.notes } in
    let b : c.args.index < length i.ports.items = subst (λ n. c.args.index < n) (sym c.self.invariant.0.ports) (rw (← c.self.view_is) at c.requires.there) in
    let f = rw (← c.self.view_is) at c.requires.fits in
    let m = (at_port_is (λ p. used (mode_ended p (component_of e)) ≤ 256) e c.args.index c.index-port.result.now c.self.invariant.0 b c.index-port.ensures f).2 in
    rw (← c.self.view_is) (elim c.match-port.branch [ in-Enabling x ↦ rw x.completion-is (rw x.in-Enabling.is at m) | in-Disabling x ↦ rw x.completion-is (rw x.in-Disabling.is at m) ])

pub returns-clause-component : goal.returns-clause-component
returns-clause-component g c =
    let i = c.self.inside in
    let e : Entry (g.row.C.Denot) = record { handle = i.handle; settings = i.params; state = i.state; pending = i.pending; loss_mark = i.loss_mark; holds = i.holds; waiting = i.waiting; work = i.work; file = i.file; part = record { ended_inputs = i.ended_inputs.items; ended = i.ended; failed = i.failed }; ports = i.ports.items; queues = i.notes } in
    let b : c.args.index < length i.ports.items = subst (λ n. c.args.index < n) (sym c.self.invariant.0.ports) (rw (← c.self.view_is) at c.requires.there) in
    let h = port_is e c.args.index c.index-port.result.now c.self.invariant.0 b c.index-port.ensures in
    let r = rw (← c.self.view_is) at c.end.ensures.component in
    rw (← c.self.view_is, h.1) (elim c.match-port.branch [ in-Enabling x ↦ rw x.in-Enabling.is (rw x.completion-is at r) | in-Disabling x ↦ rw x.in-Disabling.is (rw x.completion-is at r) ])
