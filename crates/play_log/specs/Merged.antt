-- Lists whose values have places, and all of them in one list by place.
use Rattle.std.specs.Prelude.{◌≡◌, ℕ, ◌+◌, ◌<◌, ◌≤◌, ltb, cond, List, [], ◌∷◌, length, MatchOption, Option, Some, drop, slice_get, slice_index_or, slice_set}

abbrev pub weave : {T : Type 0} → (T → ℕ) → T → (List T → List T) → List T → List T
weave place x rest [] = x ∷ rest []
weave place x rest (y ∷ ys) = cond (ltb (place x) (place y)) (x ∷ rest (y ∷ ys)) (y ∷ weave place x rest ys)

-- two lists in one: of two firsts the one of the lower place goes before
abbrev pub merged : {T : Type 0} → (T → ℕ) → List T → List T → List T
merged place [] ys = ys
merged place (x ∷ xs) ys = weave place x (merged place xs) ys

-- all lists in one
abbrev pub merged_all : {T : Type 0} → (T → ℕ) → List (List T) → List T
merged_all place [] = []
merged_all place (list ∷ lists) = merged place list (merged_all place lists)

-- what is left of each list from its place on
abbrev pub left_of : {T : Type 0} → List ℕ → List (List T) → List (List T)
left_of at [] = []
left_of [] (list ∷ lists) = []
left_of (n ∷ at) (list ∷ lists) = drop n list ∷ left_of at lists

module _ {T : Type 0} (place : T → ℕ) (at : List ℕ) (lists : List (List T)) where
  -- of the lists from the i-th on what is left, by place
  abbrev pub rest : ℕ → List T
  rest i = merged_all place (left_of (drop i at) (drop i lists))

  -- the same, once one value more of the p-th was taken
  abbrev pub rest_without : ℕ → ℕ → List T
  rest_without p i = merged_all place (left_of (drop i (slice_set at p (slice_index_or at p 0 + 1))) (drop i lists))

  -- Of the lists from the i-th on the p-th has the first of all that is left, whose place is the least.
  pub record Leads (i p least : ℕ) : Type 0 where
    pub value : T
    pub there : slice_get (slice_index_or lists p []) (slice_index_or at p 0) ≡ Some value
    pub from : i ≤ p
    pub within : p < length lists
    pub lowest : place value ≡ least
    pub first : rest i ≡ value ∷ rest_without p i

  -- a list that has it, with its place, unless nothing is left
  abbrev pub IsLeader : ℕ → Option (ℕ × ℕ) → Type 0
  IsLeader i best = MatchOption best (rest i ≡ []) (λ it. Leads i it.0 it.1)
