use Rattle.turnstile.specs.Passes.{IsPassOf}
use Rattle.turns_bench.proofs.measure.take_turns.Given as goal

abbrev pub invariant-loop : goal.invariant-loop
invariant-loop g l = IsPassOf l.stile l.pass
