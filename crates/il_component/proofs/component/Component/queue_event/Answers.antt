use Rattle.std.proofs.Common.{refl, arith}
use Rattle.il_component.proofs.Fit.{room-fit, held_in-told}
use Rattle.il_component.proofs.component.Component.queue_event.Goals as goal

pub push_event-requires : goal.push_event-requires
push_event-requires g c = let asked = rw (← c.self.view_is) at c.requires in let room = room-fit _ c.self.invariant.0 in omega arith

pub returns-clause-kept : goal.returns-clause-kept
returns-clause-kept g c = rw (← c.self.view_is, c.push_event.ensures) (record { client = refl; headers = held_in-told c.self.inside.notes.notes c.args.event })
