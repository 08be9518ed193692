use Rattle.std.proofs.Common.{◌≡◌, false, nat_lt, nat_le, ◌||◌, sym, ◌∙◌, ap, arith}
use Rattle.std.proofs.lemmas.Bool.Decides.{nat_tests}
use Rattle.il_machine.specs.Commands.{is_at_once}
use Rattle.note_queues.specs.Queues.{is_full}
use Rattle.il_component.specs.Entries.{Entry}
use Rattle.il_component.proofs.Queueing.{lacks_at_once, lacks_later}
use Rattle.il_component.proofs.component.Component.lacks_command_room.Goals as goal

pub returns-then-is_at_once : goal.returns-then-is_at_once
returns-then-is_at_once g c =
    let i = c.self.inside in
    let e : Entry (g.row.C.Denot) = record { handle = i.handle; settings = i.params; state = i.state; pending = i.pending; loss_mark = i.loss_mark; holds = i.holds; waiting = i.waiting; work = i.work; file = i.file; part = record { ended_inputs = i.ended_inputs.items; ended = i.ended; failed = i.failed }; ports = i.ports.items; queues = i.notes } in
    rw (← c.self.view_is) (lacks_at_once e c.args.command c.events.result c.work_reserve.result (omega (arith, c.events.ensures)) c.work_reserve.ensures.count c.work_reserve.ensures.few (sym c.is_at_once.ensures ∙ c.if-is_at_once.true))

pub returns-else-queued-ge32 : goal.returns-else-queued-ge32
returns-else-queued-ge32 g c =
    let i = c.self.inside in
    let e : Entry (g.row.C.Denot) = record { handle = i.handle; settings = i.params; state = i.state; pending = i.pending; loss_mark = i.loss_mark; holds = i.holds; waiting = i.waiting; work = i.work; file = i.file; part = record { ended_inputs = i.ended_inputs.items; ended = i.ended; failed = i.failed }; ports = i.ports.items; queues = i.notes } in
    let t : is_at_once c.args.command ≡ false = sym c.is_at_once.ensures ∙ c.if-is_at_once.false in
    let k = rw (← c.self.view_is) at c.cost.ensures in
    let b = c.if-queued-ge32.false in
    let q : nat_le 32 c.queued.result ≡ false = grind (arith, nat_tests) in
    let f : nat_lt c.room.result c.cost.result ≡ is_full c.cost.result c.self.inside.notes = rw (← c.queued.ensures, ← c.room.ensures.room) (ap (λ b. b || nat_lt c.room.result c.cost.result) (sym q)) in
    f ∙ rw (← c.self.view_is) (lacks_later e c.args.command c.cost.result c.self.invariant.0 k t)
