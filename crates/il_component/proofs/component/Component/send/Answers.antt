use Rattle.std.proofs.Common.{◌≡◌, false, Ok, sym, ◌∙◌}
use Rattle.il_machine.specs.Commands.{is_at_once}
use Rattle.note_queues.specs.Queues.{is_full}
use Rattle.il_component.specs.Entries.{Entry}
use Rattle.il_component.proofs.Queueing.{lacks_later, fit_commanded}
use Rattle.il_component.proofs.component.Component.send.Goals as goal

pub unreachable-requires : goal.unreachable-requires
unreachable-requires g c =
    let i = c.self.inside in
    let e : Entry (g.row.C.Denot) = record { handle = i.handle; settings = i.params; state = i.state; pending = i.pending; loss_mark = i.loss_mark; holds = i.holds; waiting = i.waiting; work = i.work; file = i.file; part = record { ended_inputs = i.ended_inputs.items; ended = i.ended; failed = i.failed }; ports = i.ports.items; queues = i.notes } in
    let t : is_at_once c.args.command ≡ false = sym c.is_at_once.ensures ∙ c.if-is_at_once.false in
    let k = rw (← c.self.view_is) at c.cost-cost.ensures in
    let r = rw (← c.self.view_is) at c.requires in
    let f : is_full c.cost-cost.result c.self.inside.notes ≡ false = lacks_later e c.args.command c.cost-cost.result c.self.invariant.0 k t ∙ r in
    let o : c.push_command.result ≡ Ok tt = c.push_command.ensures.fits f in
    let x = sym o ∙ c.in-Err.is in
    cc

pub invariant_of-self : goal.invariant_of-self
invariant_of-self g c =
    let i = c.self.inside in
    let e : Entry (g.row.C.Denot) = record { handle = i.handle; settings = i.params; state = i.state; pending = i.pending; loss_mark = i.loss_mark; holds = i.holds; waiting = i.waiting; work = i.work; file = i.file; part = record { ended_inputs = i.ended_inputs.items; ended = i.ended; failed = i.failed }; ports = i.ports.items; queues = i.notes } in
    let k = rw (← c.self.view_is) at c.cost-cost.ensures in
    (rw c.in-Ok.ensures.queued (fit_commanded e c.args.command c.cost-cost.result c.self.invariant.0 k), c.self.invariant.1)
