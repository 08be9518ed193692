-- A row that is put in a graph's book for a component that changed: the rows are again those of the components.
use Rattle.std.proofs.Common.{◌≡◌, ◌⊎◌, inl, inr, ℕ, zero, suc, ◌<◌, ◌≤◌, Bool, true, false, ◌||◌, nat_eq, nat_lt, List, [], ◌∷◌, ◌++◌, take, drop, set, remove, length, filter, map, slice_get, Some, refl, sym, ◌∙◌, ap, subst, eq-eqb, append_assoc, arith}
use Rattle.std.specs.Prelude.{is_some}
use Rattle.std.proofs.lemmas.Bool.{lt-ltb, le-ltb}
use Rattle.il_machine.specs.Sound.{AreRising}
use Rattle.il_machine.specs.World.{Component, number_of}
use Rattle.machine_laws.proofs.Finding.{either}
use Rattle.machine_laws.proofs.Lookups.{rises_at}
use Rattle.resource_book.specs.Rows as book
use Rattle.resource_book.specs.Rows.{is_kept, is_below, is_above, has_place, with_row, blank_row}
use Rattle.resource_book.specs.declared.row.Row.{Row}
use Rattle.graph_core.specs.Booked.{row_for, booked}

-- ---- one row in front

in_front : (r : Row) (rows : List Row) → filter is_kept (r ∷ rows) ≡ filter is_kept (r ∷ []) ++ filter is_kept rows
in_front r rows = either (is_kept r) (λ k. rw k refl) (λ k. rw k refl)

passes : (p : Row → Bool) (r : Row) (rows : List Row) → p r ≡ true → filter p (filter is_kept (r ∷ rows)) ≡ filter is_kept (r ∷ []) ++ filter p (filter is_kept rows)
passes p r rows t = either (is_kept r) (λ k. rw (k, t) refl) (λ k. rw k refl)

fails : (p : Row → Bool) (r : Row) (rows : List Row) → p r ≡ false → filter p (filter is_kept (r ∷ rows)) ≡ filter p (filter is_kept rows)
fails p r rows f = either (is_kept r) (λ k. rw (k, f) refl) (λ k. rw k refl)

pub booked_append : (cs ds : List Component) → booked (cs ++ ds) ≡ booked cs ++ booked ds
booked_append [] ds = refl
booked_append (c ∷ cs) ds =
    in_front (row_for c) (map row_for (cs ++ ds))
    ∙ (ap (λ (rows : List Row). filter is_kept (row_for c ∷ []) ++ rows) (booked_append cs ds)
    ∙ (sym (append_assoc (filter is_kept (row_for c ∷ [])) (booked cs) (booked ds)) ∙ ap (λ (rows : List Row). rows ++ booked ds) (sym (in_front (row_for c) (map row_for cs)))))

-- ---- the rows before a component and behind it

none_below : (n from next : ℕ) (cs : List Component) → n ≤ from → AreRising from cs next → filter (is_below n) (booked cs) ≡ []
none_below n from next [] l R = refl
none_below n from next (c ∷ cs) l R =
    fails (is_below n) (row_for c) (map row_for cs) (le-ltb (number_of c) n (omega (arith, R.0))) ∙ none_below n (suc (number_of c)) next cs (omega (arith, R.0)) R.1

all_above : (n from next : ℕ) (cs : List Component) → n < from → AreRising from cs next → filter (is_above n) (booked cs) ≡ booked cs
all_above n from next [] l R = refl
all_above n from next (c ∷ cs) l R =
    passes (is_above n) (row_for c) (map row_for cs) (lt-ltb n (number_of c) (omega (arith, R.0)))
    ∙ (ap (λ (rows : List Row). filter is_kept (row_for c ∷ []) ++ rows) (all_above n (suc (number_of c)) next cs (omega (arith, R.0)) R.1) ∙ sym (in_front (row_for c) (map row_for cs)))

below_there : (from next i : ℕ) (cs : List Component) (c : Component) → AreRising from cs next → slice_get cs i ≡ Some c → filter (is_below (number_of c)) (booked cs) ≡ booked (take i cs)
below_there from next i [] c R e = absurd cc
below_there from next zero (x ∷ cs) c R e =
    let s : x ≡ c = cc in
    subst (λ (y : Component). filter (is_below (number_of y)) (booked (x ∷ cs)) ≡ []) s
    (fails (is_below (number_of x)) (row_for x) (map row_for cs) (le-ltb (number_of x) (number_of x) (omega arith)) ∙ none_below (number_of x) (suc (number_of x)) next cs (omega arith) R.1)
below_there from next (suc i) (x ∷ cs) c R e =
    let r = rises_at (suc (number_of x)) next i cs c R.1 e in
    passes (is_below (number_of c)) (row_for x) (map row_for cs) (lt-ltb (number_of x) (number_of c) (omega (arith, r.0)))
    ∙ (ap (λ (rows : List Row). filter is_kept (row_for x ∷ []) ++ rows) (below_there (suc (number_of x)) next i cs c R.1 e) ∙ sym (in_front (row_for x) (map row_for (take i cs))))

above_there : (from next i : ℕ) (cs : List Component) (c : Component) → AreRising from cs next → slice_get cs i ≡ Some c → filter (is_above (number_of c)) (booked cs) ≡ booked (drop (suc i) cs)
above_there from next i [] c R e = absurd cc
above_there from next zero (x ∷ cs) c R e =
    let s : x ≡ c = cc in
    subst (λ (y : Component). filter (is_above (number_of y)) (booked (x ∷ cs)) ≡ booked cs) s
    (fails (is_above (number_of x)) (row_for x) (map row_for cs) (le-ltb (number_of x) (number_of x) (omega arith)) ∙ all_above (number_of x) (suc (number_of x)) next cs (omega arith) R.1)
above_there from next (suc i) (x ∷ cs) c R e =
    let r = rises_at (suc (number_of x)) next i cs c R.1 e in
    fails (is_above (number_of c)) (row_for x) (map row_for cs) (le-ltb (number_of c) (number_of x) (omega (arith, r.0))) ∙ above_there (suc (number_of x)) next i cs c R.1 e

-- ---- the row of a component is put

set_split : (i : ℕ) (cs : List Component) (c d : Component) → slice_get cs i ≡ Some c → set cs i d ≡ take i cs ++ (d ∷ drop (suc i) cs)
set_split i [] c d e = absurd cc
set_split zero (x ∷ cs) c d e = refl
set_split (suc i) (x ∷ cs) c d e = ap (λ (xs : List Component). x ∷ xs) (set_split i cs c d e)

module _ (next i : ℕ) (cs : List Component) (c : Component) (R : AreRising 0 cs next) (e : slice_get cs i ≡ Some c) where
  around : (mid : List Row) → filter (is_below (number_of c)) (booked cs) ++ (mid ++ filter (is_above (number_of c)) (booked cs)) ≡ booked (take i cs) ++ (mid ++ booked (drop (suc i) cs))
  around mid =
      ap (λ (rows : List Row). rows ++ (mid ++ filter (is_above (number_of c)) (booked cs))) (below_there 0 next i cs c R e)
      ∙ ap (λ (rows : List Row). booked (take i cs) ++ (mid ++ rows)) (above_there 0 next i cs c R e)

  -- the component becomes another of its number
  pub booked_put : (d : Component) → number_of d ≡ number_of c → with_row (row_for d) (booked cs) ≡ booked (set cs i d)
  booked_put d n =
      let mid : List Row = filter is_kept (row_for d ∷ []) in
      ap (λ (m : ℕ). filter (is_below m) (booked cs) ++ (mid ++ filter (is_above m) (booked cs))) n
      ∙ (around mid
      ∙ (ap (λ (rows : List Row). booked (take i cs) ++ rows) (sym (in_front (row_for d) (map row_for (drop (suc i) cs))))
      ∙ (sym (booked_append (take i cs) (d ∷ drop (suc i) cs)) ∙ ap booked (sym (set_split i cs c d e)))))

  -- the component goes
  pub booked_freed : with_row (blank_row (number_of c)) (booked cs) ≡ booked (remove cs i)
  booked_freed = around [] ∙ sym (booked_append (take i cs) (drop (suc i) cs))

or_true : (b c : Bool) → c ≡ true → (b || c) ≡ true
or_true true c t = refl
or_true false c t = t

fewer_rows : (cs : List Component) → length (booked cs) ≤ length cs
fewer_rows [] = omega arith
fewer_rows (c ∷ cs) =
    let i = fewer_rows cs in
    either (is_kept (row_for c)) (λ k. rw k (omega arith)) (λ k. rw k (omega arith))

row_or_room : (i : ℕ) (cs : List Component) (c : Component) → slice_get cs i ≡ Some c → (is_some (book.row_of (number_of c) (booked cs)) ≡ true) ⊎ (length (booked cs) < length cs)
row_or_room i [] c e = absurd cc
row_or_room zero (x ∷ cs) c e =
    let s : x ≡ c = cc in
    let f = fewer_rows cs in
    either (is_kept (row_for x))
    (λ k. let t : nat_eq (number_of x) (number_of c) ≡ true = eq-eqb (number_of x) (number_of c) (ap number_of s) in inl (rw (k, t) refl))
    (λ k. inr (rw k (omega arith)))
row_or_room (suc i) (x ∷ cs) c e =
    either (is_kept (row_for x))
    (λ k. either (nat_eq (number_of x) (number_of c))
    (λ t. inl (rw (k, t) refl))
    (λ t. elim (row_or_room i cs c e) [ inl h ↦ inl (rw (k, t) h) | inr l ↦ inr (rw k (omega arith)) ]))
    (λ k. elim (row_or_room i cs c e) [ inl h ↦ inl (rw k h) | inr l ↦ inr (rw k (omega arith)) ])

pub booked_room : (i : ℕ) (cs : List Component) (c : Component) → slice_get cs i ≡ Some c → length cs ≤ 32 → has_place (number_of c) (booked cs) ≡ true
booked_room i cs c e few = elim (row_or_room i cs c e) [
  | inl h ↦ rw h refl
  | inr l ↦ or_true (is_some (book.row_of (number_of c) (booked cs))) (nat_lt (length (booked cs)) 32) (lt-ltb (length (booked cs)) 32 (omega arith))
]

-- ---- one of no row comes last

pub booked_pushed : (cs : List Component) (c : Component) → is_kept (row_for c) ≡ false → booked (cs ++ c ∷ []) ≡ booked cs
booked_pushed [] c f = rw f refl
booked_pushed (x ∷ cs) c f =
    in_front (row_for x) (map row_for (cs ++ c ∷ []))
    ∙ (ap (λ (rows : List Row). filter is_kept (row_for x ∷ []) ++ rows) (booked_pushed cs c f) ∙ sym (in_front (row_for x) (map row_for cs)))

-- a component whose row stays
pub booked_same : (i : ℕ) (cs : List Component) (c d : Component) → slice_get cs i ≡ Some c → row_for d ≡ row_for c → booked (set cs i d) ≡ booked cs
booked_same i [] c d e q = absurd cc
booked_same zero (x ∷ cs) c d e q = let s : x ≡ c = cc in ap (λ (r : Row). filter is_kept (r ∷ map row_for cs)) (q ∙ ap row_for (sym s))
booked_same (suc i) (x ∷ cs) c d e q =
    in_front (row_for x) (map row_for (set cs i d))
    ∙ (ap (λ (rows : List Row). filter is_kept (row_for x ∷ []) ++ rows) (booked_same i cs c d e q) ∙ sym (in_front (row_for x) (map row_for cs)))
