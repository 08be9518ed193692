use Rattle.conductor.specs.Phases.{NoneBefore, is_half}
use Rattle.conductor.proofs.changing.first_half.Given as goal

abbrev pub invariant-loop-number : goal.invariant-loop-number
invariant-loop-number l = NoneBefore is_half l.lates l.number
