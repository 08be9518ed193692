use Rattle.std.proofs.Common.{◌≡◌, All}
use Rattle.turnstile.specs.Passes.{IsPassOf, view}
use Rattle.turns_bench.proofs.measure.passes.Given as goal

abbrev pub invariant-loop : goal.invariant-loop
invariant-loop l = IsPassOf l.stile l.root × ((view l.root).number ≡ 0) × ((view l.root).splits ≡ l.counter) × All (λ p. IsPassOf l.stile p) l.passes.items
