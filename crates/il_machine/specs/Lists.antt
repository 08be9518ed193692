-- Small words for lists of tests and for look-ups.
use Rattle.std.specs.Prelude.{ℕ, Bool, true, false, ◌&&◌, ◌||◌, nat_eq, List, [], ◌∷◌, ◌++◌, drop, length, min, Option, Some, None, if◌then◌else◌}

-- every test of the list is true
abbrev pub all_of : List Bool → Bool
all_of [] = true
all_of (test ∷ tests) = test && all_of tests

-- some test of the list is true
abbrev pub any_of : List Bool → Bool
any_of [] = false
any_of (test ∷ tests) = test || any_of tests

-- the first of the list whose test is true
abbrev pub first_of_these : {E : Type 0} → List (Bool × E) → Option E
first_of_these [] = None
first_of_these (x ∷ xs) = if x.0 then Some x.1 else first_of_these xs

-- there is a value, and it passes the test
abbrev pub holds_at : {A : Type 0} → Option A → (A → Bool) → Bool
holds_at None test = false
holds_at (Some x) test = test x

-- the two lists of numbers are equal
abbrev pub same_numbers : List ℕ → List ℕ → Bool
same_numbers [] [] = true
same_numbers (x ∷ xs) (y ∷ ys) = nat_eq x y && same_numbers xs ys
same_numbers [] (y ∷ ys) = false
same_numbers (x ∷ xs) [] = false

abbrev pub is_empty : {A : Type 0} → List A → Bool
is_empty [] = true
is_empty (x ∷ xs) = false

-- the bytes with others in place of their front
abbrev pub overwritten : List ℕ → List ℕ → List ℕ
overwritten front bytes = front ++ drop (length front) bytes

-- ---- the best of a list

module _ {X : Type 0} where
  -- one that is in front gives way to the best of the others where that one goes before it
  abbrev pub better : (X → X → Bool) → X → Option X → X
  better before x None = x
  better before x (Some y) = if before y x then y else x

  -- the best of those that pass the test
  abbrev pub best_of : (X → Bool) → (X → X → Bool) → List X → Option X
  best_of test before [] = None
  best_of test before (x ∷ xs) = if test x then Some (better before x (best_of test before xs)) else best_of test before xs

-- the least of the numbers, 0 where there are none
abbrev pub least : List ℕ → ℕ
least [] = 0
least (n ∷ []) = n
least (n ∷ m ∷ ns) = min n (least (m ∷ ns))
