-- The component's row stands at the place that is its own, or nowhere.
use Rattle.std.proofs.Common.{◌≡◌, ◌≢◌, inl, inr, ℕ, zero, suc, ◌<◌, ◌≤◌, Bool, true, false, not, List, [], ◌∷◌, length, filter, slice_get, slice_index_or, if◌then◌else◌, Some, None, refl, sym, ◌∙◌, ap, arith}
use Rattle.std.specs.Prelude.{remove}
use Rattle.std.specs.List.Sorted.{IsNonDecreasingBy, IsPartitionPoint, IsPartitionedBy}
use Rattle.std.proofs.lemmas.Bool.{ne_eqb}
use Rattle.std.proofs.lemmas.List.Sorted.{IsPartitionedBy-ltb}
use Rattle.resource_book.specs.Rows.{component_of, is_below, is_of, row_at, row_of, AllAbove, AreRising}
use Rattle.resource_book.specs.declared.row.Row.{Row}
use Rattle.resource_book.proofs.Placing.{all_above, compared, is_other, none_below, others_placed}

-- ---- the place is found by halves

above_at : (c : ℕ) (rows : List Row) → AllAbove c rows → (k : ℕ) (d : Row) → k < length rows → c < (slice_index_or rows k d).component
above_at c [] all k d lt = absurd (omega (arith, lt))
above_at c (r ∷ rows) all zero d lt = all.0
above_at c (r ∷ rows) all (suc k) d lt = above_at c rows all.1 k d (omega (arith, lt))

never_fall : (rows : List Row) → AreRising rows → IsNonDecreasingBy component_of rows
never_fall [] rising i j d le lt = absurd (omega (arith, lt))
never_fall (r ∷ rows) rising zero zero d le lt = omega arith
never_fall (r ∷ rows) rising zero (suc j) d le lt =
    let a = above_at r.component rows rising.0 j d (omega (arith, lt)) in
    omega (arith, a)
never_fall (r ∷ rows) rising (suc i) zero d le lt = absurd (omega (arith, le))
never_fall (r ∷ rows) rising (suc i) (suc j) d le lt = never_fall rows rising.1 i j d (omega (arith, le)) (omega (arith, lt))

pub are_parted : (c : ℕ) (rows : List Row) → AreRising rows → IsPartitionedBy (is_below c) rows
are_parted c rows rising = IsPartitionedBy-ltb component_of rows c (never_fall rows rising)

none_pass : (p : Row → Bool) (rows : List Row) → ((k : ℕ) (d : Row) → k < length rows → p (slice_index_or rows k d) ≡ false) → filter p rows ≡ []
none_pass p [] fail = refl
none_pass p (r ∷ rows) fail =
    let first : p r ≡ false = fail 0 r (omega arith) in
    let rest : filter p rows ≡ [] = none_pass p rows (λ k d lt. let up : suc k < length (r ∷ rows) = omega (arith, lt) in fail (suc k) d up) in
    rw first rest

pub parted_at : (p : Row → Bool) (rows : List Row) (n : ℕ) → n ≤ length rows → IsPartitionPoint (λ r. p r ≡ true) (λ r. p r ≡ false) rows n → n ≡ length (filter p rows)
parted_at p [] n le parts = omega (arith, le)
parted_at p (r ∷ rows) zero le parts = sym (ap length (none_pass p (r ∷ rows) (λ k d lt. parts.1 k d (omega arith) lt)))
parted_at p (r ∷ rows) (suc n) le parts =
    let first : p r ≡ true = parts.0 0 r (omega arith) (omega arith) in
    let rest : n ≡ length (filter p rows) = parted_at p rows n (omega (arith, le)) (
      (λ k d from lt. let up : suc k < suc n = omega (arith, lt) in parts.0 (suc k) d (omega arith) up),
      (λ k d from lt. let low : suc n ≤ suc k = omega (arith, from) in let up : suc k < length (r ∷ rows) = omega (arith, lt) in parts.1 (suc k) d low up),
    ) in
    rw first (omega (arith, rest))

-- ---- the row stands there

pub row_there : (c : ℕ) (r : Row) (rows : List Row) → AreRising rows → slice_get rows (length (filter (is_below c) rows)) ≡ Some r → r.component ≡ c → row_at c rows ≡ r
row_there c r [] rising at same = absurd cc
row_there c r (x ∷ rows) rising at same = elim (compared c x) [
  | inl l ↦
      let b = l.below in
      let later : slice_get rows (length (filter (is_below c) rows)) ≡ Some r = rw b at at in
      rw (l.of) (row_there c r rows rising.1 later same)
  | inr s ↦ elim s [
    | inl e ↦
        let b = e.below in
        let n = e.number in
        let none : filter (is_below c) rows ≡ [] = none_below c x.component rows (omega (arith, n)) rising.0 in
        let here : Some x ≡ Some r = rw (b, none) at at in
        rw (e.of) (cc)
    | inr g ↦
        let b = g.below in
        let n = g.number in
        let none : filter (is_below c) rows ≡ [] = none_below c x.component rows (omega (arith, n)) rising.0 in
        let here : Some x ≡ Some r = rw (b, none) at at in
        let is : x ≡ r = cc in
        let k : x.component ≡ c = ap component_of is ∙ same in
        absurd (omega (arith, n, k))
  ]
]

pub row_taken : (c : ℕ) (r : Row) (rows : List Row) → AreRising rows → slice_get rows (length (filter (is_below c) rows)) ≡ Some r → r.component ≡ c
    → remove rows (length (filter (is_below c) rows)) ≡ filter (is_other c) rows
row_taken c r [] rising at same = absurd cc
row_taken c r (x ∷ rows) rising at same = elim (compared c x) [
  | inl l ↦
      let b = l.below in
      let later : slice_get rows (length (filter (is_below c) rows)) ≡ Some r = rw b at at in
      rw (l.of, b) (ap (λ (xs : List Row). x ∷ xs) (row_taken c r rows rising.1 later same))
  | inr s ↦ elim s [
    | inl e ↦
        let b = e.below in
        let n = e.number in
        let none : filter (is_below c) rows ≡ [] = none_below c x.component rows (omega (arith, n)) rising.0 in
        let others : filter (is_other c) rows ≡ rows = others_placed c rows rising.1 ∙ rw none (all_above c x.component rows (omega (arith, n)) rising.0) in
        rw (e.of, b, none, others) refl
    | inr g ↦
        let b = g.below in
        let n = g.number in
        let none : filter (is_below c) rows ≡ [] = none_below c x.component rows (omega (arith, n)) rising.0 in
        let here : Some x ≡ Some r = rw (b, none) at at in
        let is : x ≡ r = cc in
        let k : x.component ≡ c = ap component_of is ∙ same in
        absurd (omega (arith, n, k))
  ]
]

-- ---- the row stands nowhere

-- no row of the component stands at the place that would be its own
abbrev pub IsNotThere : ℕ → List Row → Type 0
IsNotThere c rows = (old : Row) → slice_get rows (length (filter (is_below c) rows)) ≡ Some old → old.component ≢ c

lacked_above : (c d : ℕ) (rows : List Row) → c ≤ d → AllAbove d rows → row_of c rows ≡ None
lacked_above c d [] le all = refl
lacked_above c d (r ∷ rows) le all =
    let a = all.0 in
    let other : is_of c r ≡ false = ne_eqb r.component c (λ e. omega (arith, a, e)) in
    rw other (lacked_above c d rows le all.1)

pub row_lacks : (c : ℕ) (rows : List Row) → AreRising rows → IsNotThere c rows → row_of c rows ≡ None
row_lacks c [] rising lacks = refl
row_lacks c (x ∷ rows) rising lacks = elim (compared c x) [
  | inl l ↦
      let b = l.below in
      rw (l.of) (row_lacks c rows rising.1 (λ old at. lacks old (rw b at)))
  | inr s ↦ elim s [
    | inl e ↦
        let b = e.below in
        let n = e.number in
        let none : filter (is_below c) rows ≡ [] = none_below c x.component rows (omega (arith, n)) rising.0 in
        absurd (lacks x (rw (b, none) refl) (sym n))
    | inr g ↦
        let n = g.number in
        rw (g.of) (lacked_above c x.component rows (omega (arith, n)) rising.0)
  ]
]

pub others_stay : (c : ℕ) (rows : List Row) → row_of c rows ≡ None → filter (is_other c) rows ≡ rows
others_stay c [] none = refl
others_stay c (r ∷ rows) none =
    (elim (is_of c r) as (λ b. (if b then Some r else row_of c rows) ≡ None → (if not b then r ∷ filter (is_other c) rows else filter (is_other c) rows) ≡ r ∷ rows) [
      | true ↦ λ some. absurd cc
      | false ↦ λ later. ap (λ (xs : List Row). r ∷ xs) (others_stay c rows later)
    ]) none
