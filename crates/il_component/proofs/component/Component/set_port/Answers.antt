use Rattle.std.proofs.Common.{◌<◌, length, set, sym, subst}
use Rattle.std.proofs.Math.ListN.{length-set}
use Rattle.il_component.specs.Entries.{Entry}
use Rattle.il_component.proofs.Calm.{busy_put}
use Rattle.il_component.proofs.Fit.{fit-resettled, used-resettled}
use Rattle.il_component.proofs.component.Component.set_port.Goals as goal

pub hold-requires-clause-fits : goal.hold-requires-clause-fits
hold-requires-clause-fits g c =
    let asked = rw (← c.self.view_is) at c.requires.fits in
    let same = length-set c.self.inside.ports.items c.args.index c.args.port in
    rw (c.deref.ensures.value, ← used-resettled _ c.self.invariant.0 c.self.inside.state c.self.inside.pending c.self.inside.loss_mark _ same) asked

pub invariant_of-self : goal.invariant_of-self
invariant_of-self g c =
    let i = c.self.inside in
    let e : Entry (g.row.C.Denot) = record { handle = i.handle; settings = i.params; state = i.state; pending = i.pending; loss_mark = i.loss_mark; holds = i.holds; waiting = i.waiting; work = i.work; file = i.file; part = record { ended_inputs = i.ended_inputs.items; ended = i.ended; failed = i.failed }; ports = i.ports.items; queues = i.notes } in
    let b : c.args.index < length i.ports.items = subst (λ n. c.args.index < n) (sym c.self.invariant.0.ports) (rw (← c.self.view_is) at c.requires.there) in (
      rw (c.hold.ensures, c.deref.ensures.value) (fit-resettled e c.self.invariant.0 i.state i.pending i.loss_mark (set i.ports.items c.args.index c.args.port) (length-set i.ports.items c.args.index c.args.port)),
      busy_put i.ports.items i.busy c.keep_busy.new.busy c.args.index c.args.port c.self.invariant.1 b c.keep_busy.ensures,
    )
