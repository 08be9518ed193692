-- Which numbers a set has, by the bits of its word.
use Rattle.std.specs.Prelude.{◌≡◌, ◌≤◌, ◌<◌, ℕ, suc, Bool, true, false, Option, Some, None, nat_eq, nat_lt, if◌then◌else◌}
use Rattle.std.specs.Int.{bit_at}

-- the number is one of the set's
unfoldable pub has : ℕ → ℕ → Bool
has word i = nat_eq (bit_at word i) 1

-- which number a place had before a number was taken out and the greater ones came down
abbrev pub moved_down : ℕ → ℕ → ℕ
moved_down number i = if nat_lt i number then i else suc i

-- the least number of the set from this one on
abbrev pub IsNext : ℕ → ℕ → Option ℕ → Type 0
IsNext word from None = (i : ℕ) → from ≤ i → has word i ≡ false
IsNext word from (Some next) = (from ≤ next) × (next < 32) × (has word next ≡ true) × ((i : ℕ) → from ≤ i → i < next → has word i ≡ false)
