-- What stands at a place of a list that was changed.
use Rattle.std.proofs.Common.{◌≡◌, ◌≢◌, ◌⊎◌, inl, inr, ℕ, zero, suc, List, [], ◌∷◌, ◌++◌, length, set, remove, map, Some, slice_get, refl, ap, arith, nat_lt, if◌then◌else◌}
use Rattle.std.proofs.lemmas.Bool.Decides.{nat_tests}

module _ {X : Type 0} where
  pub get_set_same : (xs : List X) (i : ℕ) (x y : X) → slice_get xs i ≡ Some x → slice_get (set xs i y) i ≡ Some y
  get_set_same [] i x y h = absurd cc
  get_set_same (a ∷ xs) zero x y h = refl
  get_set_same (a ∷ xs) (suc i) x y h = get_set_same xs i x y h

  pub get_set_other : (xs : List X) (i j : ℕ) (y : X) → j ≢ i → slice_get (set xs i y) j ≡ slice_get xs j
  get_set_other [] i j y d = refl
  get_set_other (a ∷ xs) zero zero y d = absurd (d refl)
  get_set_other (a ∷ xs) zero (suc j) y d = refl
  get_set_other (a ∷ xs) (suc i) zero y d = refl
  get_set_other (a ∷ xs) (suc i) (suc j) y d = get_set_other xs i j y (λ e. d (ap suc e))

  pub get_last : (xs : List X) (j : ℕ) (y z : X) → slice_get (xs ++ y ∷ []) j ≡ Some z → (slice_get xs j ≡ Some z) ⊎ ((j ≡ length xs) × (z ≡ y))
  get_last [] zero y z h = inr (refl, grind arith)
  get_last [] (suc j) y z h = absurd cc
  get_last (a ∷ xs) zero y z h = inl h
  get_last (a ∷ xs) (suc j) y z h = elim (get_last xs j y z h) [ inl e ↦ inl e | inr e ↦ inr (ap suc e.0, e.1) ]

  pub get_before_last : (xs : List X) (j : ℕ) (y z : X) → slice_get xs j ≡ Some z → slice_get (xs ++ y ∷ []) j ≡ Some z
  get_before_last [] j y z h = absurd cc
  get_before_last (a ∷ xs) zero y z h = h
  get_before_last (a ∷ xs) (suc j) y z h = get_before_last xs j y z h

  pub get_at_last : (xs : List X) (y : X) → slice_get (xs ++ y ∷ []) (length xs) ≡ Some y
  get_at_last [] y = refl
  get_at_last (a ∷ xs) y = get_at_last xs y

  pub get_removed : (xs : List X) (i j : ℕ) → slice_get (remove xs i) j ≡ slice_get xs (if nat_lt j i then j else suc j)
  get_removed [] zero j = grind (arith, nat_tests)
  get_removed [] (suc i) zero = grind (arith, nat_tests)
  get_removed [] (suc i) (suc j) = grind (arith, nat_tests)
  get_removed (a ∷ xs) zero j = grind (arith, nat_tests)
  get_removed (a ∷ xs) (suc i) zero = grind (arith, nat_tests)
  get_removed (a ∷ xs) (suc i) (suc j) = let h = get_removed xs i j in grind (arith, nat_tests)

-- the two lists stand side by side
pub map_set : {X Y : Type 0} (f : X → Y) (xs : List X) (i : ℕ) (y : X) → map f (set xs i y) ≡ set (map f xs) i (f y)
map_set f [] i y = refl
map_set f (a ∷ xs) zero y = refl
map_set f (a ∷ xs) (suc i) y = ap (λ (z : List _). f a ∷ z) (map_set f xs i y)

pub map_remove : {X Y : Type 0} (f : X → Y) (xs : List X) (i : ℕ) → map f (remove xs i) ≡ remove (map f xs) i
map_remove f [] zero = refl
map_remove f [] (suc i) = refl
map_remove f (a ∷ xs) zero = refl
map_remove f (a ∷ xs) (suc i) = ap (λ (z : List _). f a ∷ z) (map_remove f xs i)
