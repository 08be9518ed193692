use Rattle.std.proofs.Common.{◌≡◌, ◌≤◌, length}
use Rattle.il_machine.specs.Whole.{Always}
use Rattle.il_graph.specs.Shown.{kept}
use Rattle.board.specs.Watching.{AreFirstSeats}
use Rattle.board.proofs.making.seats.Given as goal

abbrev pub invariant-loop-place : goal.invariant-loop-place
invariant-loop-place g l = (length l.handles.items ≤ l.place) × (length l.states.items ≡ length l.handles.items) × Always (kept g.C.Client.progress l.graph) (AreFirstSeats l.place l.handles.items l.states.items)
