-- The first place of a list that passes a test, by recursion.
use Rattle.std.specs.Prelude.{◌≡◌, ℕ, suc, ◌+◌, nat_lt, Bool, true, List, [], ◌∷◌, Option, Some, None, option_map, cond}

module _ {X : Type 0} where
  abbrev pub first_place : (X → Bool) → List X → Option ℕ
  first_place test [] = None
  first_place test (x ∷ xs) = cond (test x) (Some 0) (option_map suc (first_place test xs))

  -- at most one of the list passes
  abbrev pub AtMostOne : (X → Bool) → List X → Type 0
  AtMostOne test [] = Unit {0}
  AtMostOne test (x ∷ xs) = (test x ≡ true → first_place test xs ≡ None) × AtMostOne test xs

-- a place before k stands, and one from k on stood one further
abbrev pub shift : ℕ → ℕ → ℕ
shift k place = cond (nat_lt place k) place (place + 1)
