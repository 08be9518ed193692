use Rattle.std.proofs.Common.{Bool, not, ◌∙◌, ap}
use Rattle.il_component.specs.Entries.{Entry}
use Rattle.il_component.proofs.Calm.{calm_is}
use Rattle.il_component.proofs.component.Component.is_calm.Goals as goal

pub returns-then-is_none : goal.returns-then-is_none
returns-then-is_none g c =
    let i = c.self.inside in
    let e : Entry (g.row.C.Denot) = record { handle = i.handle; settings = i.params; state = i.state; pending = i.pending; loss_mark = i.loss_mark; holds = i.holds; waiting = i.waiting; work = i.work; file = i.file; part = record { ended_inputs = i.ended_inputs.items; ended = i.ended; failed = i.failed }; ports = i.ports.items; queues = i.notes } in
    rw (← c.self.view_is) (calm_is e i.busy c.is_empty.result c.self.invariant.1 (c.is_none.ensures ∙ ap (λ (b : Bool). not b) c.if-is_none.true) c.is_empty.ensures)
