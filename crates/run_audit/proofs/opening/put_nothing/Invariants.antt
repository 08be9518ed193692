use Rattle.std.proofs.Common.{◌≡◌, ◌<◌, ◌≤◌, ℕ, None, Some, length, slice_get}
use Rattle.std.specs.Vec.{vec_capacity, vec_len}
use Rattle.run_audit.proofs.opening.put_nothing.Given as goal

abbrev pub invariant-loop : goal.invariant-loop
invariant-loop g l = record {
  room : l.count ≤ vec_capacity l.things;
  len : vec_len l.things ≡ l.counter;
  many : length l.things.items ≡ l.counter;
  each : (place : ℕ) → place < l.counter → slice_get l.things.items place ≡ Some None;
}
