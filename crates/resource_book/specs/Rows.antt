-- The rows of components that hold units or wait for some: who is first of those that wait, and who is its victim.
use Rattle.std.specs.Prelude.{◌≡◌, ◌⊎◌, ℕ, ◌<◌, Bool, true, false, not, ◌&&◌, ◌||◌, nat_eq, nat_lt, List, [], ◌∷◌, ◌++◌, length, filter, sum_by, Option, Some, None, is_some, option_and_then, option_map, IfSome, unwrap_or, if◌then◌else◌}
use Rattle.std.specs.List.{find}
use Rattle.resource_book.specs.declared.row.Held.{Held}
use Rattle.resource_book.specs.declared.row.Row.{Row}
use Rattle.resource_book.specs.declared.row.Wait.{Wait}

abbrev pub is_holder : Row → Bool
is_holder r = is_some r.held

abbrev pub is_waiter : Row → Bool
is_waiter r = is_some r.wait

-- it holds units or waits
abbrev pub is_kept : Row → Bool
is_kept r = is_holder r || is_waiter r

abbrev pub units_or_0 : Option Held → ℕ
units_or_0 None = 0
units_or_0 (Some held) = held.units

abbrev pub units_in : Row → ℕ
units_in r = units_or_0 r.held

abbrev pub units_held : List Row → ℕ
units_held rows = sum_by units_in rows

abbrev pub are_returning : Option Held → Bool
are_returning None = false
are_returning (Some held) = held.returning

-- it holds units that are on their way back
abbrev pub is_returning : Row → Bool
is_returning r = are_returning r.held

-- ---- who waits

abbrev pub number_or_0 : Option Wait → ℕ
number_or_0 None = 0
number_or_0 (Some wait) = wait.number

abbrev pub number_of : Row → ℕ
number_of r = number_or_0 r.wait

-- a lesser priority number goes first, then a lesser waiting number
abbrev pub is_before : Row → Row → Bool
is_before r s = nat_lt r.priority s.priority || (nat_eq r.priority s.priority && nat_lt (number_of r) (number_of s))

module _ {X : Type 0} where
  abbrev pub better : (X → X → Bool) → X → Option X → X
  better before x None = x
  better before x (Some y) = if before y x then y else x

  -- the one that goes before all others
  abbrev pub first_of : (X → X → Bool) → List X → Option X
  first_of before [] = None
  first_of before (x ∷ xs) = Some (better before x (first_of before xs))

  abbrev pub IsOneOf : X → List X → Type 0
  IsOneOf x [] = ⊥
  IsOneOf x (y ∷ ys) = (x ≡ y) ⊎ IsOneOf x ys

  abbrev pub NoneBefore : (X → X → Bool) → X → List X → Type 0
  NoneBefore before x [] = Unit {0}
  NoneBefore before x (y ∷ ys) = (before y x ≡ false) × NoneBefore before x ys

  -- it is one of these, and none of them goes before it
  pub record GoesFirst (before : X → X → Bool) (xs : List X) (x : X) : Type 0 where
    pub among : IsOneOf x xs
    pub first : NoneBefore before x xs

-- of those that wait the one that goes before all others
abbrev pub first_waiter : List Row → Option Row
first_waiter rows = first_of is_before (filter is_waiter rows)

-- ---- who gives up its units

-- it holds units that aren't on their way back, and its priority number is above the waiter's
abbrev pub is_weaker : Row → Row → Bool
is_weaker waiter r = is_holder r && not (is_returning r) && nat_lt waiter.priority r.priority

-- a greater priority number goes first, then a greater component number
abbrev pub gives_first : Row → Row → Bool
gives_first r s = nat_lt s.priority r.priority || (nat_eq r.priority s.priority && nat_lt s.component r.component)

abbrev pub weakest : Row → List Row → Option Row
weakest waiter rows = first_of gives_first (filter (is_weaker waiter) rows)

abbrev pub victim : List Row → Option Row
victim rows = option_and_then (λ waiter. weakest waiter rows) (first_waiter rows)

-- the first waiter is a least one, and its victim a greatest one
abbrev pub IsFirstToGet : List Row → Type 0
IsFirstToGet rows = IfSome (first_waiter rows) (GoesFirst is_before (filter is_waiter rows))

abbrev pub IsFirstToGive : List Row → Type 0
IsFirstToGive rows = IfSome (first_waiter rows) (λ waiter. IfSome (weakest waiter rows) (GoesFirst gives_first (filter (is_weaker waiter) rows)))

-- ---- the row of a component

abbrev pub component_of : Row → ℕ
component_of r = r.component

abbrev pub is_of : ℕ → Row → Bool
is_of component r = nat_eq r.component component

abbrev pub is_below : ℕ → Row → Bool
is_below component r = nat_lt r.component component

abbrev pub is_above : ℕ → Row → Bool
is_above component r = nat_lt component r.component

abbrev pub blank_row : ℕ → Row
blank_row component = record { component = component; priority = 0; held = None; wait = None }

abbrev pub row_of : ℕ → List Row → Option Row
row_of component rows = find (is_of component) rows

-- the component's row; without one it holds nothing and doesn't wait
abbrev pub row_at : ℕ → List Row → Row
row_at component rows = unwrap_or (row_of component rows) (blank_row component)

-- it has a row, or fewer than 32 components have one
abbrev pub has_place : ℕ → List Row → Bool
has_place component rows = is_some (row_of component rows) || nat_lt (length rows) 32

-- The row stands in its component's place among the others, which are as before. One that needn't be kept is left out.
abbrev pub with_row : Row → List Row → List Row
with_row r rows = filter (is_below r.component) rows ++ (filter is_kept (r ∷ []) ++ filter (is_above r.component) rows)

abbrev pub AllAbove : ℕ → List Row → Type 0
AllAbove component [] = Unit {0}
AllAbove component (r ∷ rows) = (component < r.component) × AllAbove component rows

-- the rows stand in the order of their components' numbers, one a component
abbrev pub AreRising : List Row → Type 0
AreRising [] = Unit {0}
AreRising (r ∷ rows) = AllAbove r.component rows × AreRising rows

-- ---- what a call makes of its component's row

abbrev pub holding : ℕ → ℕ → Row → Row
holding units priority r = record r { priority = priority; held = Some (record { units = units; returning = false }) }

abbrev pub given_back : Row → Row
given_back r = record r { held = None }

abbrev pub on_the_way : Held → Held
on_the_way held = record held { returning = true }

abbrev pub marked_back : Row → Row
marked_back r = record r { held = option_map on_the_way r.held }

abbrev pub waiting : ℕ → ℕ → ℕ → Row → Row
waiting need priority number r = record r { priority = priority; wait = Some (record { need = need; number = number }) }

abbrev pub left : Row → Row
left r = record r { wait = None }
