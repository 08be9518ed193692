use Rattle.std.proofs.Common.{◌≤◌, ◌<◌, length, sym, subst}
use Rattle.il_machine.specs.Room.{used}
use Rattle.il_component.specs.Entries.{Entry, component_of}
use Rattle.il_component.specs.PortChanges.{flush_ended}
use Rattle.il_component.proofs.Named.{at_port_is, port_is}
use Rattle.il_component.proofs.component.Component.end_flush.Goals as goal

pub end-requires-clause-fits : goal.end-requires-clause-fits
end-requires-clause-fits g c =
    let i = c.self.inside in
    let e : Entry (g.row.C.Denot) = record { handle = i.handle; settings = i.params; state = i.state; pending = i.pending; loss_mark = i.loss_mark; holds = i.holds; waiting = i.waiting; work = i.work; file = i.file; part = record { ended_inputs = i.ended_inputs.items; ended = i.ended; failed = i.failed }; ports = i.ports.items; queues = i.notes } in
    let b : c.args.index < length i.ports.items = subst (λ n. c.args.index < n) (sym c.self.invariant.0.ports) (rw (← c.self.view_is) at c.requires.there) in
    let f = rw (← c.self.view_is) at c.requires.fits in
    rw (← c.self.view_is) ((at_port_is (λ p. used (flush_ended p (component_of e)) ≤ 256) e c.args.index c.index-port.result.now c.self.invariant.0 b c.index-port.ensures f).2)

pub returns-clause-component : goal.returns-clause-component
returns-clause-component g c =
    let i = c.self.inside in
    let e : Entry (g.row.C.Denot) = record { handle = i.handle; settings = i.params; state = i.state; pending = i.pending; loss_mark = i.loss_mark; holds = i.holds; waiting = i.waiting; work = i.work; file = i.file; part = record { ended_inputs = i.ended_inputs.items; ended = i.ended; failed = i.failed }; ports = i.ports.items; queues = i.notes } in
    let b : c.args.index < length i.ports.items = subst (λ n. c.args.index < n) (sym c.self.invariant.0.ports) (rw (← c.self.view_is) at c.requires.there) in
    let h = port_is e c.args.index c.index-port.result.now c.self.invariant.0 b c.index-port.ensures in
    rw (← c.self.view_is, h.1) (rw (← c.self.view_is) at c.end.ensures.component)
