-- Refusals by two lists, one after the other.
use Rattle.std.proofs.Common.{◌≡◌, Bool, false, List, [], ◌∷◌, ◌++◌, Some, None, refl, arith}
use Rattle.il_machine.specs.Lists.{first_of_these}

module _ {E : Type 0} where
  pub first_of_first : (xs ys : List (Bool × E)) (e : E) → first_of_these xs ≡ Some e → first_of_these (xs ++ ys) ≡ Some e
  first_of_first [] ys e h = absurd cc
  first_of_first (x ∷ xs) ys e h = grind (arith, first_of_first xs ys e)

  pub first_of_second : (xs ys : List (Bool × E)) → first_of_these xs ≡ None → first_of_these (xs ++ ys) ≡ first_of_these ys
  first_of_second [] ys h = refl
  first_of_second (x ∷ xs) ys h = grind (arith, first_of_second xs ys)

  pub none_of_first : (xs ys : List (Bool × E)) → first_of_these (xs ++ ys) ≡ None → first_of_these xs ≡ None
  none_of_first [] ys h = refl
  none_of_first (x ∷ xs) ys h = grind (arith, none_of_first xs ys)

  pub none_of_second : (xs ys : List (Bool × E)) → first_of_these (xs ++ ys) ≡ None → first_of_these ys ≡ None
  none_of_second [] ys h = h
  none_of_second (x ∷ xs) ys h = grind (arith, none_of_second xs ys)

  -- a first test that fails, then two lists
  pub refused_by_first : (a : Bool) (d : E) (xs ys : List (Bool × E)) (e : E) → a ≡ false → first_of_these xs ≡ Some e → first_of_these ((a, d) ∷ xs ++ ys) ≡ Some e
  refused_by_first a d xs ys e n h = rw n (first_of_first xs ys e h)

  pub refused_by_second : (a : Bool) (d : E) (xs ys : List (Bool × E)) → a ≡ false → first_of_these xs ≡ None → first_of_these ((a, d) ∷ xs ++ ys) ≡ first_of_these ys
  refused_by_second a d xs ys n h = rw n (first_of_second xs ys h)
