-- The one that goes before all others goes before each.
use Rattle.std.proofs.Common.{◌≡◌, ◌⊎◌, inl, inr, ℕ, Bool, true, false, ◌&&◌, ◌||◌, List, [], ◌∷◌, filter, Option, Some, None, refl, arith}
use Rattle.std.specs.Prelude.{nat_eq, nat_lt, IfSome}
use Rattle.std.proofs.lemmas.Bool.Decides.{nat_tests}
use Rattle.resource_book.specs.Rows.{better, first_of, NoneBefore, GoesFirst, IsFirstToGet, IsFirstToGive, first_waiter, weakest, is_waiter, is_weaker, is_before, gives_first, number_of}
use Rattle.resource_book.specs.declared.row.Row.{Row}

-- ---- two numbers, the first of which decides where they differ

abbrev less : ℕ → ℕ → ℕ → ℕ → Bool
less a b m n = nat_lt a b || (nat_eq a b && nat_lt m n)

less-itself : (a m : ℕ) → less a a m m ≡ false
less-itself a m = grind (arith, nat_tests)

less-back : (a b m n : ℕ) → less a b m n ≡ true → less b a n m ≡ false
less-back a b m n h = grind (arith, nat_tests)

less-along : (a b c m n k : ℕ) → less a b m n ≡ false → less b c n k ≡ false → less a c m k ≡ false
less-along a b c m n k h g = grind (arith, nat_tests)

record IsOrder (before : Row → Row → Bool) : Type 0 where
  itself : (r : Row) → before r r ≡ false
  back : (r s : Row) → before r s ≡ true → before s r ≡ false
  along : (r s t : Row) → before r s ≡ false → before s t ≡ false → before r t ≡ false

is_before-order : IsOrder is_before
is_before-order = record {
  itself = λ r. less-itself r.priority (number_of r);
  back = λ r s. less-back r.priority s.priority (number_of r) (number_of s);
  along = λ r s t. less-along r.priority s.priority t.priority (number_of r) (number_of s) (number_of t);
}

turned : (a b m n : ℕ) → (nat_lt b a || (nat_eq a b && nat_lt n m)) ≡ less b a n m
turned a b m n = grind (arith, nat_tests)

gives_first-order : IsOrder gives_first
gives_first-order = record {
  itself = λ r. less-itself r.priority r.component;
  back = λ r s h. rw (turned s.priority r.priority s.component r.component) (less-back s.priority r.priority s.component r.component (rw (turned r.priority s.priority r.component s.component) at h));
  along = λ r s t h g. rw (turned r.priority t.priority r.component t.component) (less-along' r s t (rw (turned r.priority s.priority r.component s.component) at h) (rw (turned s.priority t.priority s.component t.component) at g));
}
  where
    less-along' : (r s t : Row) → less s.priority r.priority s.component r.component ≡ false → less t.priority s.priority t.component s.component ≡ false → less t.priority r.priority t.component r.component ≡ false
    less-along' r s t h g = less-along t.priority s.priority r.priority t.component s.component r.component g h

module _ (before : Row → Row → Bool) (order : IsOrder before) where
  none_before : (x y : Row) (rows : List Row) → before y x ≡ false → NoneBefore before y rows → NoneBefore before x rows
  none_before x y [] h all = tt
  none_before x y (r ∷ rows) h all = (order.along r y x all.0 h, none_before x y rows h all.1)

  first_step : (x : Row) (rows : List Row) (o : Option Row) → first_of before rows ≡ o → IfSome o (GoesFirst before rows) → GoesFirst before (x ∷ rows) (better before x o)
  first_step x [] o e later = rw (← e) (record { among = inl refl; first = (order.itself x, tt) })
  first_step x (r ∷ rows) None e later = absurd cc
  first_step x (r ∷ rows) (Some y) e later =
      elim (either (before y x)) [
        | inl goes ↦ rw goes (record { among = inr later.among; first = (order.back y x goes, later.first) })
        | inr stays ↦ rw stays (record { among = inl refl; first = (order.itself x, none_before x y (r ∷ rows) stays later.first) })
      ]
    where
      either : (b : Bool) → (b ≡ true) ⊎ (b ≡ false)
      either true = inl refl
      either false = inr refl

  first_of-first : (rows : List Row) → IfSome (first_of before rows) (GoesFirst before rows)
  first_of-first [] = tt
  first_of-first (x ∷ rows) = first_step x rows (first_of before rows) refl (first_of-first rows)

pub first_waiter-first : (rows : List Row) → IsFirstToGet rows
first_waiter-first rows = first_of-first is_before is_before-order (filter is_waiter rows)

if_some : (o : Option Row) (P : Row → Type 0) → ((r : Row) → P r) → IfSome o P
if_some None P all = tt
if_some (Some r) P all = all r

pub victim-first : (rows : List Row) → IsFirstToGive rows
victim-first rows = if_some (first_waiter rows) (λ waiter. IfSome (weakest waiter rows) (GoesFirst gives_first (filter (is_weaker waiter) rows)))
    (λ waiter. first_of-first gives_first gives_first-order (filter (is_weaker waiter) rows))
