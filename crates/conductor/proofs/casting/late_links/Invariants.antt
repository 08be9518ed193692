use Rattle.std.proofs.Common.{◌≡◌, ◌++◌, drop}
use Rattle.conductor.specs.Casting.{late_links}
use Rattle.conductor.proofs.casting.late_links.Given as goal

abbrev pub invariant-loop-place : goal.invariant-loop-place
invariant-loop-place l = l.lates.items ++ late_links l.joints l.place (drop l.place l.parts) ≡ late_links l.joints 0 l.parts
