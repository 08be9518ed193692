use Rattle.std.proofs.Common.{◌≡◌, ℕ, ◌<◌, ◌≤◌, false, slice_get}
use Rattle.bit_set.specs.Members.{has}
use Rattle.il_machine.specs.Lists.{holds_at}
use Rattle.il_component.specs.Busy.{is_busy}
use Rattle.il_component.proofs.port_changes.busy_of.Given as goal

abbrev pub invariant-loop-index : goal.invariant-loop-index
invariant-loop-index l = record {
  below : (i : ℕ) → i < l.index → has l.busy i ≡ holds_at (slice_get l.ports i) is_busy;
  above : (i : ℕ) → l.index ≤ i → has l.busy i ≡ false;
}
