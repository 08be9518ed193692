use Rattle.note_queues.proofs.Counts.{counted-header, places-header}
use Rattle.note_queues.proofs.notes.Notes.push_header.Goals as goal

pub put_newest_to-requires : goal.put_newest_to-requires
put_newest_to-requires g c = places-header _ _ _ c.self.invariant.0 _ c.self.invariant.1.notes (rw (← c.self.view_is) at c.requires)

pub invariant_of-self : goal.invariant_of-self
invariant_of-self g c =
    rw (c.put_newest_to.ensures, c.note_of_header-taken.ensures) (counted-header _ _ _ c.self.invariant.0 c.args.input c.args.header (rw (← c.self.view_is) at c.requires), c.self.invariant.1)
