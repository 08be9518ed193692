-- A list whose first items are changed, each by its place.
use Rattle.std.proofs.Common.{◌≡◌, ℕ, zero, suc, ◌+◌, ◌<◌, List, [], ◌∷◌, length, get_or, set, refl, ◌∙◌, ap, arith}

module _ {A : Type 0} (f : ℕ → A → A) where
  abbrev pub each_until : ℕ → ℕ → List A → List A
  each_until n index [] = []
  each_until zero index (x ∷ xs) = x ∷ xs
  each_until (suc n) index (x ∷ xs) = f index x ∷ each_until n (index + 1) xs

  pub until_none : (index : ℕ) (xs : List A) → each_until 0 index xs ≡ xs
  until_none index [] = refl
  until_none index (x ∷ xs) = refl

  pub length-until : (n index : ℕ) (xs : List A) → length (each_until n index xs) ≡ length xs
  length-until n index [] = refl
  length-until zero index (x ∷ xs) = refl
  length-until (suc n) index (x ∷ xs) = ap suc (length-until n (index + 1) xs)

  -- the next item is changed
  pub until_more : (n index : ℕ) (xs : List A) (d : A) → n < length xs → set (each_until n index xs) n (f (index + n) (get_or (each_until n index xs) n d)) ≡ each_until (suc n) index xs
  until_more n index [] d b = absurd (omega arith)
  until_more zero index (x ∷ []) d b = let e : index + 0 ≡ index = omega arith in rw e refl
  until_more zero index (x ∷ y ∷ xs) d b = let e : index + 0 ≡ index = omega arith in rw e refl
  until_more (suc n) index (x ∷ xs) d b =
      let e : index + suc n ≡ index + 1 + n = omega arith in
      rw e (ap (λ ys. f index x ∷ ys) (until_more n (index + 1) xs d (omega arith)))

  -- the next item stays
  pub until_same : (n index : ℕ) (xs : List A) (d : A) → f (index + n) (get_or (each_until n index xs) n d) ≡ get_or (each_until n index xs) n d → each_until (suc n) index xs ≡ each_until n index xs
  until_same n index [] d e = refl
  until_same zero index (x ∷ xs) d e =
      let i : index + 0 ≡ index = omega arith in
      ap (λ y. y ∷ each_until 0 (index + 1) xs) (rw i at e) ∙ ap (λ ys. x ∷ ys) (until_none (index + 1) xs)
  until_same (suc n) index (x ∷ xs) d e =
      let i : index + suc n ≡ index + 1 + n = omega arith in
      ap (λ ys. f index x ∷ ys) (until_same n (index + 1) xs d (rw i at e))
