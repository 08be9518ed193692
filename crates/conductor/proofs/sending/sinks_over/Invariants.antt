use Rattle.std.proofs.Common.{◌≡◌, drop}
use Rattle.conductor.specs.Phases.{sinks_over}
use Rattle.conductor.proofs.sending.sinks_over.Given as goal

abbrev pub invariant-loop-place : goal.invariant-loop-place
invariant-loop-place l = sinks_over (drop l.place l.sinks) (drop l.place l.told) ≡ sinks_over l.sinks l.told
