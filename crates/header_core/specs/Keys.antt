-- A region's key as one number, which no other key has.
use Rattle.std.specs.Prelude.{ℕ, zero, suc, ◌+◌, ◌*◌, List, [], ◌∷◌}
use Rattle.block_region.specs.Regions.{RegionKey}

-- so many times two, times the odd number behind twice m
abbrev pub times_two : ℕ → ℕ → ℕ
times_two zero m = 2 * m + 1
times_two (suc n) m = 2 * times_two n m

abbrev pub list_number : List ℕ → ℕ
list_number [] = 0
list_number (x ∷ xs) = times_two x (list_number xs)

unfoldable pub key_number : RegionKey → ℕ
key_number k = list_number (k.object ∷ (k.start ∷ (k.size ∷ k.names)))
