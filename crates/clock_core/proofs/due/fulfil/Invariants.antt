use Rattle.std.proofs.Common.{◌≡◌, ◌+◌, ◌≤◌, ◌++◌, length, take, drop, Some}
use Rattle.clock_core.specs.Due.{AreInOrder, due_until, left_after, notes_until}
use Rattle.clock_core.proofs.due.fulfil.Given as goal

abbrev pub invariant-loop-request : goal.invariant-loop-request
invariant-loop-request l = record {
  ordered : AreInOrder l.requests.items;
  room : l.count + length l.requests.items ≤ length l.out;
  left : left_after (Some l.pace) l.until l.requests.items ≡ left_after (Some l.pace) l.until l.fn.requests.items;
  due : l.count + length (due_until (Some l.pace) l.until l.requests.items) ≡ l.start + length (due_until (Some l.pace) l.until l.fn.requests.items);
  notes : take l.count l.out ++ notes_until (Some l.pace) l.earliest l.until l.requests.items ≡ take l.start l.fn.out ++ notes_until (Some l.pace) l.earliest l.until l.fn.requests.items;
  behind : drop l.count l.out ≡ drop l.count l.fn.out;
}

abbrev pub decreases-loop-request : goal.decreases-loop-request
decreases-loop-request l = length l.requests.items
