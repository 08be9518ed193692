-- What the two compandings share: one is the rising list of its 127 thresholds. A sample is a signed number, a code a number below 256.
use Rattle.std.specs.Prelude.{ℕ, List, ℤ, pos, neg_ℤ, ◌-ℤ◌, ◌≤◌, nat_le, Bool, if◌then◌else◌, unsigned_abs}
use Rattle.std.specs.List.{count_by}

-- the number of a magnitude's step: how many of the thresholds aren't above it
unfoldable pub step_number : List ℕ → ℕ → ℕ
step_number thresholds magnitude = count_by (λ threshold. nat_le threshold magnitude) thresholds

-- a magnitude with its sign
abbrev pub signed : Bool → ℕ → ℤ
signed is_positive magnitude = if is_positive then pos magnitude else neg_ℤ (pos magnitude)

-- x and y differ by at most d
abbrev pub AreWithin : ℕ → ℤ → ℤ → Type 0
AreWithin d x y = unsigned_abs (x -ℤ y) ≤ d
