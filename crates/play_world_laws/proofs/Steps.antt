-- The links of a play after a step of a component: what lands is the model's step.
use Rattle.std.proofs.Common.{◌≡◌, ℕ, zero, suc, List, [], ◌∷◌, map, slice_get, Some, refl, sym}

-- ---- lists

pub map_from : {X Y : Type 0} (h : X → Y) (xs : List X) (j : ℕ) (y : Y) → slice_get (map h xs) j ≡ Some y → (z : X) × (slice_get xs j ≡ Some z) × (y ≡ h z)
map_from h [] j y e = absurd cc
map_from h (z ∷ xs) zero y e = let s : h z ≡ y = cc in (z, refl, sym s)
map_from h (z ∷ xs) (suc j) y e = map_from h xs j y e
