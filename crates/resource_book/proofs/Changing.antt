-- A changed row finds its place, and no more units are held than there are.
use Rattle.std.proofs.Common.{◌≡◌, ◌⊎◌, inl, inr, ℕ, ◌+◌, ◌≤◌, Bool, true, false, not, ◌||◌, List, [], ◌∷◌, filter, Option, Some, None, refl, sym, ◌∙◌, ap, subst, arith}
use Rattle.std.specs.Prelude.{is_some, option_map, unwrap_or}
use Rattle.std.proofs.lemmas.Bool.{eqb-true}
use Rattle.std.proofs.lemmas.List.Filters.{sum_by-filter_both}
use Rattle.resource_book.specs.Account.{Account, IsSound}
use Rattle.resource_book.specs.Book.{has_room, free_units}
use Rattle.resource_book.specs.Rows.{is_holder, is_waiter, is_kept, is_returning, is_of, component_of, units_or_0, units_in, units_held, blank_row, row_of, row_at, with_row, given_back, left, on_the_way, marked_back}
use Rattle.resource_book.specs.declared.row.Held.{Held}
use Rattle.resource_book.specs.declared.row.Row.{Row}
use Rattle.resource_book.proofs.Placing.{units_held-with_row}

tested : (b : Bool) → (b ≡ true) ⊎ (b ≡ false)
tested true = inl refl
tested false = inr refl

pub row_at-component : (c : ℕ) (rows : List Row) → (row_at c rows).component ≡ c
row_at-component c [] = refl
row_at-component c (r ∷ rows) = elim (tested (is_of c r)) [
  | inl here ↦ rw here (eqb-true r.component c here)
  | inr not_here ↦ rw not_here (row_at-component c rows)
]

row_kept : (c : ℕ) (o : Option Row) → is_kept (unwrap_or o (blank_row c)) ≡ true → is_some o ≡ true
row_kept c None kept = absurd cc
row_kept c (Some r) kept = refl

-- a row that is kept now and was kept before has its place
pub kept_room : (c : ℕ) (b : Account) (r : Row) → r.component ≡ c → (is_kept r ≡ true → is_kept (row_at c b.rows) ≡ true) → is_kept r ≡ true → has_room r.component b ≡ true
kept_room c b r number before kept =
    let some : is_some (row_of c b.rows) ≡ true = row_kept c (row_of c b.rows) (before kept) in
    subst (λ (d : ℕ). has_room d b ≡ true) (sym number) (rw some refl)

pub with_row-covered : (b : Account) (r : Row) → IsSound b → units_in r ≤ units_in (row_at r.component b.rows) + free_units b → units_held (with_row r b.rows) ≤ b.units
with_row-covered b r sound most = omega (arith, units_held-with_row r b.rows sound.rising, sound.covered, most)

-- ---- what a call makes of the component's row

module _ (change : Row → Row) (c : ℕ) (b : Account) (r : Row) (changed : r ≡ change (row_at c b.rows)) (same : (x : Row) → (change x).component ≡ x.component) where
  number : r.component ≡ c
  number = ap component_of changed ∙ (same (row_at c b.rows) ∙ row_at-component c b.rows)

  pub changed-room : ((x : Row) → is_kept (change x) ≡ true → is_kept x ≡ true) → is_kept r ≡ true → has_room r.component b ≡ true
  changed-room before = kept_room c b r number (λ kept. before (row_at c b.rows) (ap is_kept (sym changed) ∙ kept))

  pub changed-covered : IsSound b → units_in (change (row_at c b.rows)) ≤ units_in (row_at c b.rows) + free_units b → units_held (with_row r b.rows) ≤ b.units
  changed-covered sound most = with_row-covered b r sound (omega (arith, ap units_in changed, ap (λ (d : ℕ). units_in (row_at d b.rows)) number, most))

  -- the call's own condition is that there is room
  pub asked-room : has_room c b ≡ true → has_room r.component b ≡ true
  asked-room room = subst (λ (d : ℕ). has_room d b ≡ true) (sym number) room

pub given_back-kept : (r : Row) → is_kept (given_back r) ≡ true → is_kept r ≡ true
given_back-kept r kept = elim (is_holder r) as (λ (h : Bool). (h || is_waiter r) ≡ true) [ true ↦ refl | false ↦ kept ]

left_kept : (h w : Bool) → (h || false) ≡ true → (h || w) ≡ true
left_kept true w kept = refl
left_kept false w kept = absurd cc

pub left-kept : (r : Row) → is_kept (left r) ≡ true → is_kept r ≡ true
left-kept r kept = left_kept (is_holder r) (is_waiter r) kept

marked_kept : (held : Option Held) (w : Bool) → (is_some (option_map on_the_way held) || w) ≡ true → (is_some held || w) ≡ true
marked_kept None w kept = kept
marked_kept (Some held) w kept = refl

pub marked_back-kept : (r : Row) → is_kept (marked_back r) ≡ true → is_kept r ≡ true
marked_back-kept r kept = marked_kept r.held (is_waiter r) kept

marked_units : (held : Option Held) → units_or_0 (option_map on_the_way held) ≡ units_or_0 held
marked_units None = refl
marked_units (Some held) = refl

pub marked_back-units : (r : Row) → units_in (marked_back r) ≡ units_in r
marked_back-units r = marked_units r.held

-- what is on its way back is held
pub units_returning-le : (rows : List Row) → units_held (filter is_returning rows) ≤ units_held rows
units_returning-le rows = omega (arith, sum_by-filter_both is_returning (λ (r : Row). not (is_returning r)) (λ _. refl) units_in rows)
