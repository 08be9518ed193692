-- A row among the others, in the order of their components' numbers.
use Rattle.std.proofs.Common.{◌≡◌, ◌⊎◌, inl, inr, ℕ, ◌+◌, ◌<◌, ◌≤◌, Bool, true, false, not, ◌||◌, List, [], ◌∷◌, ◌++◌, drop, length, filter, set, slice_get, if◌then◌else◌, Option, Some, None, refl, sym, ◌∙◌, ap, arith}
use Rattle.std.specs.Prelude.{nat_eq, nat_lt, insert, is_some}
use Rattle.std.specs.List.{refill}
use Rattle.std.proofs.Math.Seq.{take-append_seam, drop-append_seam}
use Rattle.std.proofs.lemmas.List.{length-append}
use Rattle.std.proofs.lemmas.Bool.{cases_lt, lt-ltb, le-ltb, eq-eqb, ne_eqb, ltb-true}
use Rattle.std.proofs.lemmas.List.Sums.{sum_by-cons, sum_by-append, length-filter, count_by-le-length}
use Rattle.resource_book.specs.Rows.{is_kept, units_in, units_held, is_of, is_below, is_above, row_of, row_at, has_place, with_row, AllAbove, AreRising}
use Rattle.resource_book.specs.declared.row.Held.{Held}
use Rattle.resource_book.specs.declared.row.Row.{Row}

abbrev pub is_other : ℕ → Row → Bool
is_other c r = not (is_of c r)

-- ---- two components' numbers

-- what the tests say of a row of a lesser component, of the component itself, and of a greater one
pub record Lesser (c : ℕ) (r : Row) : Type 0 where
  pub of : nat_eq r.component c ≡ false
  pub below : nat_lt r.component c ≡ true
  pub above : nat_lt c r.component ≡ false

pub record Same (c : ℕ) (r : Row) : Type 0 where
  pub number : c ≡ r.component
  pub of : nat_eq r.component c ≡ true
  pub below : nat_lt r.component c ≡ false
  pub above : nat_lt c r.component ≡ false

pub record Greater (c : ℕ) (r : Row) : Type 0 where
  pub number : c < r.component
  pub of : nat_eq r.component c ≡ false
  pub below : nat_lt r.component c ≡ false
  pub above : nat_lt c r.component ≡ true

pub compared : (c : ℕ) (r : Row) → Lesser c r ⊎ (Same c r ⊎ Greater c r)
compared c r = elim (cases_lt r.component c) [
  | inl less ↦ inl (record { of = ne_eqb r.component c (λ e. omega arith); below = lt-ltb r.component c less; above = le-ltb c r.component (omega arith) })
  | inr from ↦ elim (cases_lt c r.component) [
    | inl more ↦ inr (inr (record { number = more; of = ne_eqb r.component c (λ e. omega arith); below = le-ltb r.component c (omega arith); above = lt-ltb c r.component more }))
    | inr to ↦ inr (inl (record { number = omega arith; of = eq-eqb r.component c (omega arith); below = le-ltb r.component c from; above = le-ltb c r.component to }))
  ]
]

-- ---- all rows are of greater components

AllAbove-lower : (c d : ℕ) (rows : List Row) → c ≤ d → AllAbove d rows → AllAbove c rows
AllAbove-lower c d [] h all = tt
AllAbove-lower c d (r ∷ rows) h all = (omega (arith, all.0), AllAbove-lower c d rows h all.1)

AllAbove-filter : (p : Row → Bool) (c : ℕ) (rows : List Row) → AllAbove c rows → AllAbove c (filter p rows)
AllAbove-filter p c [] all = tt
AllAbove-filter p c (r ∷ rows) all = elim (p r) as (λ stays. AllAbove c (if stays then r ∷ filter p rows else filter p rows)) [
  | true ↦ (all.0, AllAbove-filter p c rows all.1)
  | false ↦ AllAbove-filter p c rows all.1
]

AllAbove-append : (c : ℕ) (xs ys : List Row) → AllAbove c xs → AllAbove c ys → AllAbove c (xs ++ ys)
AllAbove-append c [] ys first second = second
AllAbove-append c (x ∷ xs) ys first second = (first.0, AllAbove-append c xs ys first.1 second)

pub none_below : (c d : ℕ) (rows : List Row) → c ≤ d → AllAbove d rows → filter (is_below c) rows ≡ []
none_below c d [] h all = refl
none_below c d (r ∷ rows) h all =
    let above : d < r.component = all.0 in
    let t : nat_lt r.component c ≡ false = le-ltb r.component c (omega arith) in
    rw t (none_below c d rows h all.1)

pub all_above : (c d : ℕ) (rows : List Row) → c ≤ d → AllAbove d rows → filter (is_above c) rows ≡ rows
all_above c d [] h all = refl
all_above c d (r ∷ rows) h all =
    let above : d < r.component = all.0 in
    let t : nat_lt c r.component ≡ true = lt-ltb c r.component (omega arith) in
    rw t (ap (λ (xs : List Row). r ∷ xs) (all_above c d rows h all.1))

above_filtered : (c : ℕ) (rows : List Row) → AllAbove c (filter (is_above c) rows)
above_filtered c [] = tt
above_filtered c (r ∷ rows) = elim (cases_lt c r.component) [
  | inl more ↦ rw (lt-ltb c r.component more) (more, above_filtered c rows)
  | inr to ↦ rw (le-ltb c r.component to) (above_filtered c rows)
]

-- ---- where the component's row goes

pub others_placed : (c : ℕ) (rows : List Row) → AreRising rows → filter (is_other c) rows ≡ filter (is_below c) rows ++ filter (is_above c) rows
others_placed c [] rising = refl
others_placed c (r ∷ rows) rising = elim (compared c r) [
  | inl l ↦ rw (l.of, l.below, l.above) (ap (λ (xs : List Row). r ∷ xs) (others_placed c rows rising.1))
  | inr s ↦ elim s [
    | inl e ↦ rw (e.of, e.below, e.above) (others_placed c rows rising.1)
    | inr g ↦
        let none : filter (is_below c) rows ≡ [] = none_below c r.component rows (omega (arith, g.number)) rising.0 in
        let rest : filter (is_other c) rows ≡ filter (is_above c) rows = others_placed c rows rising.1 ∙ ap (λ (xs : List Row). xs ++ filter (is_above c) rows) none in
        rw (g.of, g.below, g.above) (ap (λ (xs : List Row). r ∷ xs) rest ∙ ap (λ (xs : List Row). xs ++ (r ∷ filter (is_above c) rows)) (sym none))
  ]
]

pub with_row-inserted : (r : Row) (rows : List Row) → AreRising rows → is_kept r ≡ true
    → insert (filter (is_other r.component) rows) (length (filter (is_below r.component) rows)) r ≡ with_row r rows
with_row-inserted r rows rising kept =
    let low : List Row = filter (is_below r.component) rows in
    let high : List Row = filter (is_above r.component) rows in
    ap (λ (xs : List Row). insert xs (length low) r) (others_placed r.component rows rising)
    ∙ (ap (λ (xs : List Row). xs ++ (r ∷ drop (length low) (low ++ high))) (take-append_seam low high)
    ∙ (ap (λ (xs : List Row). low ++ (r ∷ xs)) (drop-append_seam low high) ∙ rw kept refl))

pub with_row-removed : (r : Row) (rows : List Row) → AreRising rows → is_kept r ≡ false → filter (is_other r.component) rows ≡ with_row r rows
with_row-removed r rows rising kept = others_placed r.component rows rising ∙ rw kept refl

-- ---- the order stays

AreRising-filter : (p : Row → Bool) (rows : List Row) → AreRising rows → AreRising (filter p rows)
AreRising-filter p [] rising = tt
AreRising-filter p (r ∷ rows) rising = elim (p r) as (λ stays. AreRising (if stays then r ∷ filter p rows else filter p rows)) [
  | true ↦ (AllAbove-filter p r.component rows rising.0, AreRising-filter p rows rising.1)
  | false ↦ AreRising-filter p rows rising.1
]

-- rows from the component on follow those below it
AreRising-joined : (c : ℕ) (rows ys : List Row) → AreRising rows → AreRising ys → ((d : ℕ) → d < c → AllAbove d ys) → AreRising (filter (is_below c) rows ++ ys)
AreRising-joined c [] ys rising later from = later
AreRising-joined c (r ∷ rows) ys rising later from = elim (cases_lt r.component c) [
  | inl less ↦ rw (lt-ltb r.component c less)
      (AllAbove-append r.component (filter (is_below c) rows) ys (AllAbove-filter (is_below c) r.component rows rising.0) (from r.component less), AreRising-joined c rows ys rising.1 later from)
  | inr to ↦ rw (le-ltb r.component c to) (AreRising-joined c rows ys rising.1 later from)
]

pub AreRising-with_row : (r : Row) (rows : List Row) → AreRising rows → AreRising (with_row r rows)
AreRising-with_row r rows rising =
    let high : List Row = filter (is_above r.component) rows in
    let above : AllAbove r.component high = above_filtered r.component rows in
    let ordered : AreRising high = AreRising-filter (is_above r.component) rows rising in
    elim (is_kept r) as (λ kept. AreRising (filter (is_below r.component) rows ++ ((if kept then r ∷ [] else []) ++ high))) [
      | true ↦ AreRising-joined r.component rows (r ∷ high) rising (above, ordered) (λ d less. (less, AllAbove-lower d r.component high (omega arith) above))
      | false ↦ AreRising-joined r.component rows high rising ordered (λ d less. AllAbove-lower d r.component high (omega arith) above)
    ]

-- ---- units

units_split : (c : ℕ) (rows : List Row) → AreRising rows
    → units_held rows ≡ units_held (filter (is_below c) rows) + units_in (row_at c rows) + units_held (filter (is_above c) rows)
units_split c [] rising = refl
units_split c (r ∷ rows) rising = elim (compared c r) [
  | inl l ↦ rw (l.of, l.below, l.above) (omega (arith, units_split c rows rising.1, sum_by-cons units_in r rows, sum_by-cons units_in r (filter (is_below c) rows)))
  | inr s ↦ elim s [
    | inl e ↦ rw (e.of, e.below, e.above)
        (omega (arith, sum_by-cons units_in r rows, ap units_held (none_below c r.component rows (omega (arith, e.number)) rising.0), ap units_held (all_above c r.component rows (omega (arith, e.number)) rising.0)))
    | inr g ↦ rw (g.of, g.below, g.above) (omega (arith, units_split c rows rising.1, sum_by-cons units_in r rows, sum_by-cons units_in r (filter (is_above c) rows)))
  ]
]

units_or_none : (kept waits : Bool) (held : Option Held) (r : Row) → r.held ≡ held → is_kept r ≡ kept → units_held (if kept then r ∷ [] else []) ≡ units_in r
units_or_none true waits held r h k = omega (arith, sum_by-cons units_in r [])
units_or_none false waits None r h k = rw h refl
units_or_none false waits (Some some) r h k = let t : is_kept r ≡ true = rw h refl in absurd cc

pub units_held-with_row : (r : Row) (rows : List Row) → AreRising rows → units_held (with_row r rows) + units_in (row_at r.component rows) ≡ units_in r + units_held rows
units_held-with_row r rows rising =
    let low : List Row = filter (is_below r.component) rows in
    let high : List Row = filter (is_above r.component) rows in
    let mid : List Row = filter is_kept (r ∷ []) in
    let one : units_held mid ≡ units_in r = units_or_none (is_kept r) true r.held r refl refl in
    omega (arith, one, units_split r.component rows rising, sum_by-append units_in low (mid ++ high), sum_by-append units_in mid high)

pub units_at-le : (c : ℕ) (rows : List Row) → AreRising rows → units_in (row_at c rows) ≤ units_held rows
units_at-le c rows rising = omega (arith, units_split c rows rising)

-- ---- room

filter-le : (p : Row → Bool) (rows : List Row) → length (filter p rows) ≤ length rows
filter-le p rows = omega (arith, length-filter p rows, count_by-le-length p rows)

fewer_others : (c : ℕ) (rows : List Row) → is_some (row_of c rows) ≡ true → length (filter (is_other c) rows) < length rows
fewer_others c [] some = absurd cc
fewer_others c (r ∷ rows) some =
    (elim (is_of c r) as (λ b. is_some (if b then Some r else row_of c rows) ≡ true → length (if not b then r ∷ filter (is_other c) rows else filter (is_other c) rows) < length (r ∷ rows)) [
      | true ↦ λ _. omega (arith, filter-le (is_other c) rows)
      | false ↦ λ found. omega (arith, fewer_others c rows found)
    ]) some

place_cases : (o : Bool) (n : ℕ) → (o || nat_lt n 32) ≡ true → (o ≡ true) ⊎ (n < 32)
place_cases true n h = inl refl
place_cases false n h = inr (ltb-true n 32 h)

pub others_fit : (c : ℕ) (rows : List Row) → has_place c rows ≡ true → length rows ≤ 32 → length (filter (is_other c) rows) < 32
others_fit c rows place few = elim (place_cases (is_some (row_of c rows)) (length rows) place) [
  | inl some ↦ omega (arith, fewer_others c rows some)
  | inr less ↦ omega (arith, filter-le (is_other c) rows)
]

pub place-le : (c : ℕ) (rows : List Row) → AreRising rows → length (filter (is_below c) rows) ≤ length (filter (is_other c) rows)
place-le c rows rising = omega (arith, ap length (others_placed c rows rising), length-append (filter (is_below c) rows) (filter (is_above c) rows))

-- ---- a row that stands in its place

pub with_row-replaced : (r old : Row) (rows : List Row) → AreRising rows → is_kept r ≡ true → slice_get rows (length (filter (is_below r.component) rows)) ≡ Some old → old.component ≡ r.component
    → set rows (length (filter (is_below r.component) rows)) r ≡ with_row r rows
with_row-replaced r old [] rising kept at same = absurd cc
with_row-replaced r old (x ∷ rows) rising kept at same = elim (compared r.component x) [
  | inl l ↦
      let b = l.below in
      let a = l.above in
      let later : slice_get rows (length (filter (is_below r.component) rows)) ≡ Some old = rw b at at in
      rw (b, a) (ap (λ (xs : List Row). x ∷ xs) (with_row-replaced r old rows rising.1 kept later same))
  | inr s ↦ elim s [
    | inl e ↦
        let b = e.below in
        let a = e.above in
        let n = e.number in
        let none : filter (is_below r.component) rows ≡ [] = none_below r.component x.component rows (omega (arith, n)) rising.0 in
        let all : filter (is_above r.component) rows ≡ rows = all_above r.component x.component rows (omega (arith, n)) rising.0 in
        rw (b, a, none, all, kept) refl
    | inr g ↦
        let b = g.below in
        let n = g.number in
        let none : filter (is_below r.component) rows ≡ [] = none_below r.component x.component rows (omega (arith, n)) rising.0 in
        let here : Some x ≡ Some old = rw (b, none) at at in
        let is : x ≡ old = cc in
        let k : x.component ≡ r.component = ap (λ (y : Row). y.component) is ∙ same in
        absurd (omega (arith, n, k))
  ]
]

-- as many rows are written back
pub refilled : (xs ws : List Row) → length ws ≡ length xs → refill (length xs) xs ws ≡ ws
refilled [] [] e = refl
refilled [] (w ∷ ws) e = absurd (omega (arith, e))
refilled (x ∷ xs) [] e = absurd (omega (arith, e))
refilled (x ∷ xs) (w ∷ ws) e = ap (λ (l : List Row). w ∷ l) (refilled xs ws (omega (arith, e)))
