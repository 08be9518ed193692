use Rattle.std.proofs.Common.{◌≡◌, ◌++◌, take, drop}
use Rattle.clock_core.specs.Clock.{queued}
use Rattle.clock_core.proofs.queue.place_of.Given as goal

abbrev pub invariant-loop-place : goal.invariant-loop-place
invariant-loop-place l = queued l.request l.requests ≡ take l.place l.requests ++ queued l.request (drop l.place l.requests)
