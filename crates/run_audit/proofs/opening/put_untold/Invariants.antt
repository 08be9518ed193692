use Rattle.std.proofs.Common.{◌≡◌, ◌≤◌, replicate}
use Rattle.std.specs.Vec.{vec_capacity, vec_len}
use Rattle.il_machine.specs.Components.{no_progress}
use Rattle.run_audit.proofs.opening.put_untold.Given as goal

abbrev pub invariant-loop : goal.invariant-loop
invariant-loop l = record {
  room : l.count ≤ vec_capacity l.told;
  len : vec_len l.told ≡ l.counter;
  items : l.told.items ≡ replicate l.counter no_progress;
}
