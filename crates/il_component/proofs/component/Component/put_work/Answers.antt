use Rattle.il_component.proofs.Fit.{used-reworked}
use Rattle.il_component.proofs.component.Component.put_work.Goals as goal

pub hold-requires-clause-fits : goal.hold-requires-clause-fits
hold-requires-clause-fits g c =
    let asked = rw (← c.self.view_is) at c.requires in
    rw (c.deref.ensures.value, ← used-reworked _ c.self.invariant.0 c.args.work) asked
