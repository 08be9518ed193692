-- What a sink's file tells, and what was written to it, as works come back.
use Rattle.std.proofs.Common.{◌≡◌, ℕ, zero, suc, List, [], ◌∷◌, ◌++◌, length, take, Option, Some, refl, sym, ◌∙◌, ap, subst, append-nil}
use Rattle.std.specs.Io.KnownBytes.{append_known}
use Rattle.outside_io.specs.Moves.{WhereTold}
use Rattle.compared_files.specs.Comparing.{ComparingValue, IsFrontless, given_by, told_by}

-- ---- fronts

front_of_front : (n : ℕ) (xs : List ℕ) → take (length (take n xs)) xs ≡ take n xs
front_of_front zero xs = refl
front_of_front (suc n) [] = refl
front_of_front (suc n) (x ∷ xs) = ap (λ r. x ∷ r) (front_of_front n xs)

abbrev pub IsFront : List ℕ → List ℕ → Type 0
IsFront text written = take (length written) text ≡ written

module _ {S : Type 0} (told : Option (List ℕ)) (text : List ℕ) (is : told ≡ Some text) (snk : ComparingValue S) (written : List ℕ) (tells : told_by told snk ≡ append_known (Some []) written) where
  given : given_by text snk ≡ written
  given =
      let e : Some (given_by text snk) ≡ Some ([] ++ written) = sym (ap (λ (o : Option (List ℕ)). told_by o snk) is) ∙ tells in
      cc

  pub is_front : snk.other ≡ [] → IsFront text written
  is_front none =
      let e : take snk.place text ≡ written = sym (append-nil (take snk.place text)) ∙ (ap (λ (o : List ℕ). take snk.place text ++ o) (sym none) ∙ given) in
      subst (IsFront text) e (front_of_front snk.place text)

  pub no_front : WhereTold told (λ known. IsFrontless known (given_by known snk)) → IsFront text written → ⊥
  no_front differs front = differs text is (subst (IsFront text) (sym given) front)
