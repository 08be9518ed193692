use Rattle.std.proofs.Common.{refl}
use Rattle.il_component.proofs.Fit.{used-resettled}
use Rattle.il_component.proofs.component.Component.settle.Goals as goal

pub hold-requires-clause-fits : goal.hold-requires-clause-fits
hold-requires-clause-fits g c =
    let asked = rw (← c.self.view_is) at c.requires in
    rw (c.deref.ensures.value, ← used-resettled _ c.self.invariant.0 c.args.state c.args.pending c.args.loss_mark c.self.inside.ports.items refl) asked
