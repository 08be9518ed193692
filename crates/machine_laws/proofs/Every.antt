-- What is true of each element of a list, by its place.
use Rattle.std.proofs.Common.{◌≡◌, ◌≢◌, ◌⊎◌, inl, inr, ℕ, zero, suc, ◌+◌, ◌<◌, ◌≤◌, Bool, true, false, cond, List, [], ◌∷◌, ◌++◌, length, set, remove, replicate, find, slice_get, Some, All, refl, ap, subst, arith}
use Rattle.std.specs.List.{list_all, list_any, AllByRecursion}
use Rattle.std.proofs.lemmas.List.Sums.{AllPass-from_list_all}
use Rattle.std.proofs.lemmas.Option.{get_or_from_slice_get, slice_get_within}
use Rattle.std.proofs.lemmas.List.Elements.{All-nil, All-cons, All-get_or}

module _ {X : Type 0} where
  pub at_place : (P : X → Type 0) (xs : List X) (i : ℕ) (x : X) → All P xs → slice_get xs i ≡ Some x → P x
  at_place P xs i x h e = subst P (get_or_from_slice_get xs i x x e) (All-get_or P xs i x (slice_get_within xs i x e) h)

  pub from_places : (P : X → Type 0) (xs : List X) → ((i : ℕ) (x : X) → slice_get xs i ≡ Some x → P x) → All P xs
  from_places P [] h = All-nil P
  from_places P (x ∷ xs) h = All-cons P x xs (h 0 x refl) (from_places P xs (λ i y e. h (suc i) y e))

  pub set_there : (xs : List X) (i : ℕ) (x y : X) → slice_get xs i ≡ Some x → slice_get (set xs i y) i ≡ Some y
  set_there [] i x y e = absurd cc
  set_there (z ∷ xs) zero x y e = refl
  set_there (z ∷ xs) (suc i) x y e = set_there xs i x y e

  pub set_else : (xs : List X) (i j : ℕ) (y : X) → j ≢ i → slice_get (set xs i y) j ≡ slice_get xs j
  set_else [] i j y n = refl
  set_else (z ∷ xs) zero zero y n = absurd (n refl)
  set_else (z ∷ xs) zero (suc j) y n = refl
  set_else (z ∷ xs) (suc i) zero y n = refl
  set_else (z ∷ xs) (suc i) (suc j) y n = set_else xs i j y (omega arith)

  -- what stands in the list after the element at i gives way to y
  pub at_set : (xs : List X) (i j : ℕ) (y z : X) → slice_get (set xs i y) j ≡ Some z → ((j ≡ i) × (z ≡ y)) ⊎ ((j ≢ i) × (slice_get xs j ≡ Some z))
  at_set [] i j y z e = absurd cc
  at_set (x ∷ xs) zero zero y z e = inl (refl, cc)
  at_set (x ∷ xs) zero (suc j) y z e = inr ((λ n. omega arith), e)
  at_set (x ∷ xs) (suc i) zero y z e = inr ((λ n. omega arith), e)
  at_set (x ∷ xs) (suc i) (suc j) y z e = elim (at_set xs i j y z e) [ inl h ↦ inl (omega arith, h.1) | inr h ↦ inr ((λ n. h.0 (omega arith)), h.1) ]

  pub at_push : (xs : List X) (j : ℕ) (y z : X) → slice_get (xs ++ y ∷ []) j ≡ Some z → (slice_get xs j ≡ Some z) ⊎ (z ≡ y)
  at_push [] zero y z e = inr cc
  at_push [] (suc j) y z e = absurd cc
  at_push (x ∷ xs) zero y z e = inl e
  at_push (x ∷ xs) (suc j) y z e = at_push xs j y z e

  pub push_there : (xs : List X) (j : ℕ) (y z : X) → slice_get xs j ≡ Some z → slice_get (xs ++ y ∷ []) j ≡ Some z
  push_there [] j y z e = absurd cc
  push_there (x ∷ xs) zero y z e = e
  push_there (x ∷ xs) (suc j) y z e = push_there xs j y z e

  pub at_remove : (xs : List X) (i j : ℕ) (z : X) → slice_get (remove xs i) j ≡ Some z → (k : ℕ) × (k ≢ i) × (slice_get xs k ≡ Some z)
  at_remove [] zero j z e = absurd cc
  at_remove [] (suc i) j z e = absurd cc
  at_remove (x ∷ xs) zero j z e = (suc j, (λ n. omega arith), e)
  at_remove (x ∷ xs) (suc i) zero z e = (0, (λ n. omega arith), e)
  at_remove (x ∷ xs) (suc i) (suc j) z e = let r = at_remove xs i j z e in (suc r.0, (λ n. r.1 (omega arith)), r.2)

  -- every element passes, and none does
  pub all_pass : (test : X → Bool) (xs : List X) (i : ℕ) (x : X) → list_all test xs ≡ true → slice_get xs i ≡ Some x → test x ≡ true
  all_pass test xs i x h e = at_place (λ y. test y ≡ true) xs i x (AllPass-from_list_all test xs h) e

  pub none_passes : (test : X → Bool) (xs : List X) (i : ℕ) (x : X) → list_any test xs ≡ false → slice_get xs i ≡ Some x → test x ≡ false
  none_passes test [] i x h e = absurd cc
  none_passes test (y ∷ xs) zero x h e = let s : y ≡ x = cc in grind arith
  none_passes test (y ∷ xs) (suc i) x h e = let i' = none_passes test xs i x in grind arith

  pub remove_else : (xs : List X) (i k : ℕ) (z : X) → k ≢ i → slice_get xs k ≡ Some z → (j : ℕ) × (slice_get (remove xs i) j ≡ Some z)
  remove_else [] i k z a e = absurd cc
  remove_else (x ∷ xs) zero zero z a e = absurd (a refl)
  remove_else (x ∷ xs) zero (suc k) z a e = (k, e)
  remove_else (x ∷ xs) (suc i) zero z a e = (0, e)
  remove_else (x ∷ xs) (suc i) (suc k) z a e = let r = remove_else xs i k z (λ n. a (ap suc n)) e in (suc r.0, r.1)

  pub push_last_there : (xs : List X) (y : X) → slice_get (xs ++ y ∷ []) (length xs) ≡ Some y
  push_last_there [] y = refl
  push_last_there (x ∷ xs) y = push_last_there xs y

  pub at_replicas : (n k : ℕ) (x z : X) → slice_get (replicate n x) k ≡ Some z → (z ≡ x) × (k < n)
  at_replicas zero k x z e = absurd cc
  at_replicas (suc n) zero x z e = (cc, omega arith)
  at_replicas (suc n) (suc k) x z e = let r = at_replicas n k x z e in (r.0, omega (arith, r.1))

  pub at_two_replicas : (n m k : ℕ) (x y z : X) → slice_get (replicate n x ++ replicate m y) k ≡ Some z → ((k < n) × (z ≡ x)) ⊎ ((n ≤ k) × (k < n + m) × (z ≡ y))
  at_two_replicas zero m k x y z e = let r = at_replicas m k y z e in inr (omega arith, omega (arith, r.1), r.0)
  at_two_replicas (suc n) m zero x y z e = inl (omega arith, cc)
  at_two_replicas (suc n) m (suc k) x y z e = elim (at_two_replicas n m k x y z e) [ inl h ↦ inl (omega (arith, h.0), h.1) | inr h ↦ inr (omega (arith, h.0), omega (arith, h.1), h.2) ]

  -- what stands in a list after the element at i, which is there, gives way to y
  pub at_set_over : (xs : List X) (i j : ℕ) (y z : X) → slice_get (set xs i y) j ≡ Some z → ((j ≡ i) × (z ≡ y) × (x : X) × (slice_get xs i ≡ Some x)) ⊎ ((j ≢ i) × (slice_get xs j ≡ Some z))
  at_set_over [] i j y z e = absurd cc
  at_set_over (x ∷ xs) zero zero y z e = inl (refl, cc, x, refl)
  at_set_over (x ∷ xs) zero (suc j) y z e = inr ((λ n. omega arith), e)
  at_set_over (x ∷ xs) (suc i) zero y z e = inr ((λ n. omega arith), e)
  at_set_over (x ∷ xs) (suc i) (suc j) y z e = elim (at_set_over xs i j y z e) [ inl h ↦ inl (omega (arith, h.0), h.1, h.2, h.3) | inr h ↦ inr ((λ n. h.0 (omega arith)), h.1) ]

  -- what is found is one of the list
  pub found_one : (P : X → Type 0) (test : X → Bool) (xs : List X) (x : X) → AllByRecursion P xs → find test xs ≡ Some x → P x
  found_one P test [] x A e = absurd cc
  found_one P test (y ∷ xs) x A e = elim (test y) as (λ v. cond v (Some y) (find test xs) ≡ Some x → P x)
      [ true ↦ λ h. let s : y ≡ x = cc in subst P s A.0 | false ↦ λ h. found_one P test xs x A.1 h ] e
