use Rattle.std.proofs.Common.{sym, ◌∙◌, arith}
use Rattle.il_component.proofs.Fit.{used-fit, room-fit}
use Rattle.il_component.proofs.component.Component.room.Goals as goal

pub returns-clause-room : goal.returns-clause-room
returns-clause-room g c = rw (← c.self.view_is) (c.room.ensures.room ∙ sym (room-fit _ c.self.invariant.0))

pub returns-clause-within : goal.returns-clause-within
returns-clause-within g c = rw (← c.self.view_is) (let used = used-fit _ c.self.invariant.0 in let within = c.room.ensures.within.room in omega arith)
