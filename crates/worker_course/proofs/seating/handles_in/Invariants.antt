use Rattle.std.proofs.Common.{◌≡◌, length}
use Rattle.worker_course.specs.Seated.{AreHandles}
use Rattle.worker_course.proofs.seating.handles_in.Given as goal

abbrev pub invariant-loop-place : goal.invariant-loop-place
invariant-loop-place g l = (length l.handles ≡ 32) × AreHandles l.graph l.place l.handles
