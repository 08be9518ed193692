-- A value behind others, and one before them.
use Rattle.std.proofs.Common.{◌≡◌, ◌⊎◌, ℕ, zero, suc, List, [], ◌∷◌, ◌++◌, length, slice_get, Option, Some, None, inl, inr}
use Rattle.std.specs.List.{cons_option}
use Rattle.machine_laws.proofs.Every.{push_last_there}

pub put_behind : {X : Type 0} (xs : List X) (y : X) (k : ℕ) → k ≡ length xs → slice_get (xs ++ y ∷ []) k ≡ Some y
put_behind xs y k e = rw e (push_last_there xs y)

-- what is in one list behind another is in one of them
pub appended_at : {X : Type 0} (xs ys : List X) (k : ℕ) (z : X) → slice_get (xs ++ ys) k ≡ Some z → (slice_get xs k ≡ Some z) ⊎ ((n : ℕ) × (slice_get ys n ≡ Some z))
appended_at [] ys k z e = inr (k, e)
appended_at (x ∷ xs) ys zero z e = inl e
appended_at (x ∷ xs) ys (suc k) z e = appended_at xs ys k z e

-- what is in a list is there with a value before it
pub consed_at : {X : Type 0} (first : Option X) (xs : List X) (k : ℕ) (z : X) → slice_get xs k ≡ Some z → (n : ℕ) × (slice_get (cons_option first xs) n ≡ Some z)
consed_at None xs k z e = (k, e)
consed_at (Some x) xs k z e = (suc k, e)
