use Rattle.conductor.specs.Phases.{NoneBefore, is_ready}
use Rattle.conductor.proofs.changing.first_ready.Given as goal

abbrev pub invariant-loop-number : goal.invariant-loop-number
invariant-loop-number l = NoneBefore (is_ready l.told) l.lates l.number
