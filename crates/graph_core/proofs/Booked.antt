-- The rows of a graph's components tell who gets units first, who gives some, and how many are held.
use Rattle.std.proofs.Common.{◌≡◌, ℕ, suc, ◌+◌, ◌<◌, Bool, true, false, not, ◌&&◌, ◌||◌, cond, nat_eq, nat_lt, nat_le, List, [], ◌∷◌, filter, map, sum_by, if◌then◌else◌, Option, Some, None, option_and_then, option_map, refl, sym, ◌∙◌, ap, arith}
use Rattle.std.specs.Prelude.{is_some}
use Rattle.std.proofs.lemmas.Bool.Decides.{nat_tests}
use Rattle.std.proofs.lemmas.List.Sums.{sum_by-cons}
use Rattle.omx_types.specs.declared.state.State.TheVariants as states
use Rattle.il_machine.specs.Lists.{better, best_of, holds_at}
use Rattle.il_machine.specs.Ports.{is_going_to}
use Rattle.il_machine.specs.Room.{is_by_client}
use Rattle.il_machine.specs.Sound.{AreRising}
use Rattle.il_machine.specs.Units as machine
use Rattle.il_machine.specs.Units.{need_of, number_or_0, is_giving_back, is_holder}
use Rattle.il_machine.specs.World.{Component, number_of}
use Rattle.machine_laws.proofs.Finding.{either}
use Rattle.machine_laws.proofs.Granting.{best_among}
use Rattle.machine_laws.proofs.Lookups.{rises_at}
use Rattle.machine_laws.proofs.Units.{of_filtered}
use Rattle.resource_book.specs.Rows as book
use Rattle.resource_book.specs.Rows.{first_of, is_kept, units_in, units_held, units_or_0, is_returning, are_returning, number_of as number_in, component_of}
use Rattle.resource_book.specs.declared.row.Held.{Held}
use Rattle.resource_book.specs.declared.row.Row.{Row}
use Rattle.resource_book.specs.declared.row.Wait.{Wait}
use Rattle.graph_core.specs.Booked.{row_for, booked}

-- ---- one row

some_if : {A : Type 0} (b : Bool) (x : A) → is_some (if b then Some x else None) ≡ b
some_if true x = refl
some_if false x = refl

holder_is : (c : Component) → book.is_holder (row_for c) ≡ c.holds
holder_is c = some_if c.holds _

waiter_is : (c : Component) → book.is_waiter (row_for c) ≡ machine.is_waiter c
waiter_is c = some_if (machine.is_waiter c) _

units_if : (b : Bool) (h : Held) → units_or_0 (if b then Some h else None) ≡ cond b h.units 0
units_if true h = refl
units_if false h = refl

units_is : (c : Component) → units_in (row_for c) ≡ cond c.holds (need_of c) 0
units_is c = units_if c.holds (record { units = need_of c; returning = is_giving_back c })

returning_if : (b x : Bool) (n : ℕ) → are_returning (if b then Some (record { units = n; returning = b && x }) else None) ≡ (b && x)
returning_if true x n = refl
returning_if false x n = refl

-- a loss, or a way to Loaded
abbrev leaves : Component → Bool
leaves c = c.loss_mark || holds_at c.pending (λ p. not (is_by_client p.cause)) || is_going_to states.Loaded c

returning_is : (c : Component) → is_returning (row_for c) ≡ is_giving_back c
returning_is c = returning_if c.holds (leaves c) (need_of c)

number_if : (b : Bool) (w : Wait) → b ≡ true → book.number_or_0 (if b then Some w else None) ≡ w.number
number_if true w t = refl
number_if false w t = absurd cc

number_is : (c : Component) → machine.is_waiter c ≡ true → number_in (row_for c) ≡ number_or_0 c.waiting
number_is c t = number_if (machine.is_waiter c) (record { need = need_of c; number = number_or_0 c.waiting }) t

-- ---- a row that isn't kept has no units

unkept_units : (h : Option Held) (w : Bool) → (is_some h || w) ≡ false → units_or_0 h ≡ 0
unkept_units None w e = refl
unkept_units (Some h) w e = absurd cc

kept_units : (r : Row) (rows : List Row) → units_held (filter is_kept (r ∷ rows)) ≡ units_in r + units_held (filter is_kept rows)
kept_units r rows = either (is_kept r)
    (λ k. rw k (sum_by-cons units_in r (filter is_kept rows)))
    (λ k. let z : units_in r ≡ 0 = unkept_units r.held (book.is_waiter r) k in rw k (omega arith))

pub held_booked : (cs : List Component) → units_held (booked cs) ≡ machine.units_held cs
held_booked [] = refl
held_booked (c ∷ cs) =
    let i = held_booked cs in
    let k = kept_units (row_for c) (map row_for cs) in
    let u = units_is c in
    let f = of_filtered need_of c c.holds (filter is_holder cs) (machine.units_held cs) refl in
    omega (arith, i, k, u, f)

-- the units of a row that are on their way back
abbrev back_units : Row → ℕ
back_units r = cond (is_returning r) (units_in r) 0

unkept_back : (h : Option Held) (w : Bool) → (is_some h || w) ≡ false → cond (are_returning h) (units_or_0 h) 0 ≡ 0
unkept_back None w e = refl
unkept_back (Some h) w e = absurd cc

kept_back : (r : Row) (rows : List Row) → units_held (filter is_returning (filter is_kept (r ∷ rows))) ≡ back_units r + units_held (filter is_returning (filter is_kept rows))
kept_back r rows = either (is_kept r)
    (λ k. either (is_returning r)
    (λ b. rw (k, b) (sum_by-cons units_in r (filter is_returning (filter is_kept rows))))
    (λ b. rw (k, b) (omega arith)))
    (λ k. let z : back_units r ≡ 0 = unkept_back r.held (book.is_waiter r) k in rw k (omega arith))

back_if : (b x : Bool) (n : ℕ) → cond (are_returning (if b then Some (record { units = n; returning = b && x }) else None)) (units_or_0 (if b then Some (record { units = n; returning = b && x }) else None)) 0 ≡ cond (b && x) n 0
back_if true x n = refl
back_if false x n = refl

back_is : (c : Component) → back_units (row_for c) ≡ cond (is_giving_back c) (need_of c) 0
back_is c = back_if c.holds (leaves c) (need_of c)

pub returning_booked : (cs : List Component) → units_held (filter is_returning (booked cs)) ≡ sum_by need_of (filter is_giving_back cs)
returning_booked [] = refl
returning_booked (c ∷ cs) =
    let i = returning_booked cs in
    let k = kept_back (row_for c) (map row_for cs) in
    let u = back_is c in
    let f = of_filtered need_of c (is_giving_back c) (filter is_giving_back cs) (sum_by need_of (filter is_giving_back cs)) refl in
    omega (arith, i, k, u, f)

-- ---- the best row is that of the best component

passing : (test : Row → Bool) (r : Row) (rows : List Row) → is_kept r ≡ true → test r ≡ true → filter test (filter is_kept (r ∷ rows)) ≡ r ∷ filter test (filter is_kept rows)
passing test r rows k t = rw (k, t) refl

failing : (test : Row → Bool) (r : Row) (rows : List Row) → test r ≡ false → filter test (filter is_kept (r ∷ rows)) ≡ filter test (filter is_kept rows)
failing test r rows t = either (is_kept r) (λ k. rw (k, t) refl) (λ k. rw k refl)

picked : (b : Bool) (d c : Component) → (if b then row_for d else row_for c) ≡ row_for (if b then d else c)
picked true d c = refl
picked false d c = refl

-- The tests of rows and of components agree, and so do the orders, where the one that goes before stands behind.
record Agrees (test : Row → Bool) (before : Row → Row → Bool) (of : Component → Bool) (goes : Component → Component → Bool) : Type 0 where
  kept : (r : Row) → test r ≡ true → is_kept r ≡ true
  tests : (c : Component) → test (row_for c) ≡ of c
  order : (c d : Component) → of c ≡ true → of d ≡ true → number_of c < number_of d → before (row_for d) (row_for c) ≡ goes d c

module _ (test : Row → Bool) (before : Row → Row → Bool) (of : Component → Bool) (goes : Component → Component → Bool) (A : Agrees test before of goes) where
  better_booked : (c : Component) (o : Option Component) → of c ≡ true → ((d : Component) → o ≡ Some d → (of d ≡ true) × (number_of c < number_of d))
      → book.better before (row_for c) (option_map row_for o) ≡ row_for (better goes c o)
  better_booked c None t later = refl
  better_booked c (Some d) t later =
      let l = later d refl in
      ap (λ (b : Bool). if b then row_for d else row_for c) (A.order c d t l.0 l.1) ∙ picked (goes d c) d c

  best_booked : (from next : ℕ) (cs : List Component) → AreRising from cs next → first_of before (filter test (booked cs)) ≡ option_map row_for (best_of of goes cs)
  best_booked from next [] R = refl
  best_booked from next (c ∷ cs) R =
      let i = best_booked (suc (number_of c)) next cs R.1 in
      either (of c)
      (λ t.
      let u : test (row_for c) ≡ true = A.tests c ∙ t in
      let later : (d : Component) → best_of of goes cs ≡ Some d → (of d ≡ true) × (number_of c < number_of d) = λ d e.
      let a = best_among of goes cs d e in
      let r = rises_at (suc (number_of c)) next a.place cs d R.1 a.there in
      (a.passes, omega (arith, r.0)) in
      let one : first_of before (filter test (booked (c ∷ cs))) ≡ Some (book.better before (row_for c) (first_of before (filter test (booked cs)))) = ap (first_of before) (passing test (row_for c) (map row_for cs) (A.kept (row_for c) u) u) in
      let two : book.better before (row_for c) (first_of before (filter test (booked cs))) ≡ row_for (better goes c (best_of of goes cs)) = ap (book.better before (row_for c)) i ∙ better_booked c (best_of of goes cs) t later in
      let there : option_map row_for (best_of of goes (c ∷ cs)) ≡ Some (row_for (better goes c (best_of of goes cs))) = rw t refl in
      one ∙ (ap (λ (r : Row). Some r) two ∙ sym there))
      (λ f.
      let u : test (row_for c) ≡ false = A.tests c ∙ f in
      let one : first_of before (filter test (booked (c ∷ cs))) ≡ first_of before (filter test (booked cs)) = ap (first_of before) (failing test (row_for c) (map row_for cs) u) in
      let there : option_map row_for (best_of of goes (c ∷ cs)) ≡ option_map row_for (best_of of goes cs) = rw f refl in
      one ∙ (i ∙ sym there))

-- ---- the first that waits

or_true : (b c : Bool) → c ≡ true → (b || c) ≡ true
or_true true c t = refl
or_true false c t = t

waits_agree : Agrees book.is_waiter book.is_before machine.is_waiter machine.is_before
waits_agree = record {
  kept = λ r t. or_true (book.is_holder r) (book.is_waiter r) t;
  tests = waiter_is;
  order = λ c d t u l.
      ap (λ (n : ℕ). nat_lt d.settings.priority c.settings.priority || (nat_eq d.settings.priority c.settings.priority && nat_lt n (number_in (row_for c)))) (number_is d u)
      ∙ ap (λ (n : ℕ). nat_lt d.settings.priority c.settings.priority || (nat_eq d.settings.priority c.settings.priority && nat_lt (number_or_0 d.waiting) n)) (number_is c t);
}

pub waiter_booked : (next : ℕ) (cs : List Component) → AreRising 0 cs next → book.first_waiter (booked cs) ≡ option_map row_for (machine.first_waiter cs)
waiter_booked next cs R = best_booked book.is_waiter book.is_before machine.is_waiter machine.is_before waits_agree 0 next cs R

-- ---- the victim

weak_kept : (h n l w : Bool) → (h && n && l) ≡ true → (h || w) ≡ true
weak_kept true n l w t = refl
weak_kept false n l w t = absurd cc

gives_is : (p q m n : ℕ) → m < n → (nat_lt p q || (nat_eq q p && nat_lt m n)) ≡ nat_le p q
gives_is p q m n l = grind (arith, nat_tests)

weak_agree : (waiter : Component) → Agrees (book.is_weaker (row_for waiter)) book.gives_first (machine.is_weaker waiter) machine.gives_first
weak_agree waiter = record {
  kept = λ r t. weak_kept (book.is_holder r) (not (is_returning r)) (nat_lt waiter.settings.priority r.priority) (book.is_waiter r) t;
  tests = λ c.
      ap (λ (b : Bool). b && not (is_returning (row_for c)) && nat_lt waiter.settings.priority c.settings.priority) (holder_is c)
      ∙ ap (λ (b : Bool). c.holds && not b && nat_lt waiter.settings.priority c.settings.priority) (returning_is c);
  order = λ c d t u l. gives_is c.settings.priority d.settings.priority (number_of c) (number_of d) l;
}

pub weakest_booked : (next : ℕ) (cs : List Component) (waiter : Component) → AreRising 0 cs next → book.weakest (row_for waiter) (booked cs) ≡ option_map row_for (machine.weakest waiter cs)
weakest_booked next cs waiter R = best_booked (book.is_weaker (row_for waiter)) book.gives_first (machine.is_weaker waiter) machine.gives_first (weak_agree waiter) 0 next cs R

victim_from : (next : ℕ) (cs : List Component) (o : Option Component) → AreRising 0 cs next
    → option_and_then (λ w. book.weakest w (booked cs)) (option_map row_for o) ≡ option_map row_for (option_and_then (λ c. machine.weakest c cs) o)
victim_from next cs None R = refl
victim_from next cs (Some c) R = weakest_booked next cs c R

pub victim_booked : (next : ℕ) (cs : List Component) → AreRising 0 cs next → book.victim (booked cs) ≡ option_map row_for (machine.victim cs)
victim_booked next cs R =
    ap (option_and_then (λ (w : Row). book.weakest w (booked cs))) (waiter_booked next cs R) ∙ victim_from next cs (machine.first_waiter cs) R

pub number_booked : (o : Option Component) → option_map component_of (option_map row_for o) ≡ option_map number_of o
number_booked None = refl
number_booked (Some c) = refl
