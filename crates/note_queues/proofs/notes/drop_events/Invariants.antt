use Rattle.std.proofs.Common.{◌≡◌, length, map}
use Rattle.il_machine.specs.Census.{note_numbers}
use Rattle.note_queues.specs.Queues.{note_of}
use Rattle.note_queues.proofs.notes.drop_events.Given as goal

-- no note that is left is of a header
abbrev pub invariant-loop-taken : goal.invariant-loop-taken
invariant-loop-taken l = length (note_numbers (map note_of l.notes.items)) ≡ 0

abbrev pub decreases-loop-taken : goal.decreases-loop-taken
decreases-loop-taken l = length l.notes.items
