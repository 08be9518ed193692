use Rattle.note_queues.proofs.Counts.{no_header-rest, no_header-first}
use Rattle.note_queues.proofs.notes.drop_events.Goals as goal

pub loop-taken-preserved : goal.loop-taken-preserved
loop-taken-preserved c = rw c.in-Some.ensures.items (no_header-rest c.loop-taken.notes.items c.loop-taken.invariant)

pub unreachable-requires : goal.unreachable-requires
unreachable-requires c = no_header-first c.loop-taken.notes.items c.in-Some.taken c.loop-taken.invariant c.in-Some.ensures.value c.in-EmptyDone.is
