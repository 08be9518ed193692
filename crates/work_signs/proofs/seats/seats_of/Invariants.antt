use Rattle.std.proofs.Common.{take}
use Rattle.work_signs.specs.Seats.{AreSeatsOf}
use Rattle.work_signs.proofs.seats.seats_of.Given as goal

abbrev pub invariant-loop-place : goal.invariant-loop-place
invariant-loop-place l = AreSeatsOf (take l.place l.parts) (take l.place l.handles) l.seats.items
