use Rattle.note_queues.proofs.Counts.{counted-event, places-event}
use Rattle.note_queues.proofs.notes.Notes.push_event.Goals as goal

pub put_newest_to-requires : goal.put_newest_to-requires
put_newest_to-requires g c = places-event _ _ _ c.self.invariant.0 _ c.self.invariant.1.notes (rw (← c.self.view_is) at c.requires)

pub invariant_of-self : goal.invariant_of-self
invariant_of-self g c = rw c.put_newest_to.ensures (counted-event _ _ _ c.self.invariant.0 c.args.event (rw (← c.self.view_is) at c.requires), c.self.invariant.1)
