use Rattle.std.proofs.Common.{◌≡◌, ◌≤◌, ◌*◌, ◌++◌, ◌+◌, take, length}
use Rattle.clock_core.specs.Printed.{due_lines}
use Rattle.clock_core.proofs.text.put_notes.Given as goal

abbrev pub invariant-loop-note : goal.invariant-loop-note
invariant-loop-note l = record {
  so_far : l.text.items ≡ l.initial.text.items ++ due_lines (take l.note-index l.notes);
  count : length l.text.items ≤ length l.initial.text.items + 50 * l.note-index;
}
