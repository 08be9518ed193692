-- The ports of a component at which something is pending.
use Rattle.std.specs.Prelude.{◌≡◌, ◌<◌, ◌≤◌, ℕ, Bool, false, ◌||◌, List, length, slice_get, Option, Some, None}
use Rattle.bit_set.specs.Members.{has}
use Rattle.il_machine.specs.declared.port.PortState.{PortState}
use Rattle.il_machine.specs.Lists.{holds_at}
use Rattle.il_machine.specs.Commands.{is_flushing, is_changing, is_waiting}

-- a flush, a disable, an enable or a mark is pending at the port
abbrev pub is_busy : PortState → Bool
is_busy p = is_flushing p || is_changing p || is_waiting p

-- The set has the numbers of these ports, and no other.
pub record AreBusy (ports : List PortState) (busy : ℕ) : Type 0 where
  pub each : (i : ℕ) → has busy i ≡ holds_at (slice_get ports i) is_busy

-- the least of these ports from this one on
abbrev pub IsNextBusy : List PortState → ℕ → Option ℕ → Type 0
IsNextBusy ports from None = (i : ℕ) (p : PortState) → from ≤ i → slice_get ports i ≡ Some p → is_busy p ≡ false
IsNextBusy ports from (Some next) = (from ≤ next) × (next < length ports) × ((i : ℕ) (p : PortState) → from ≤ i → i < next → slice_get ports i ≡ Some p → is_busy p ≡ false)
