-- Lists of views and of entries.
use Rattle.std.proofs.Common.{◌≡◌, ℕ, zero, suc, ◌+◌, ◌*◌, ◌<◌, ◌≤◌, ◌≢◌, ◌==◌, ltb, cond, List, [], ◌∷◌, ◌++◌, length, set, Bool, true, false, Option, Some, None, sym, refl, ap, ◌∙◌, subst, arith, append_assoc, append-nil, eq-eqb, ne_eqb, length-append}
use Rattle.std.proofs.lemmas.Bool.{le-ltb, lt-ltb}
use Rattle.std.proofs.lemmas.Option.{none-some}
use mathlib.Core.Option.{some, some-injective, some-ne-none}
use mathlib.Core.Logic.{dite}
use native.Mathlib.Decide.{dec_le}
use lib.ListN.{get_elem?}
use Rattle.turnstile.specs.declared.entry.Entry.{Entry}
use Rattle.turnstile.specs.declared.view.View.{View}
use Rattle.turnstile.specs.declared.view.Stage.{Stage}
use Rattle.turnstile.specs.declared.view.Stage.TheVariants.{Empty, Open, Ready}
use Rattle.turnstile.specs.Entries.{Begins, entry, kept, own, Met, none, next}
use Rattle.turnstile.specs.Passes.{TicketIs}
use Rattle.turnstile.specs.Turns.{total, IsAmong, HasTicket, one_less, ticket_after, late, placed, HavePlaces}

pub some_is : {X : Type 0} (a b : X) → Some a ≡ Some b → a ≡ b
some_is {X} a b e = let or_a : Option X → X = elim [ None ↦ a | Some x ↦ x ] in ap or_a e

pub by_bool : {P : Type 0} (b : Bool) → (b ≡ true → P) → (b ≡ false → P) → P
by_bool true f g = f refl
by_bool false f g = g refl

abbrev pub is_ready : Stage → Bool
is_ready Empty = false
is_ready Open = false
is_ready Ready = true

module _ {A : Type 0} where
  pub at_below : (l : List A) (i : ℕ) (a : A) → get_elem? l i ≡ some a → i < length l
  at_below [] i a e = absurd (some-ne-none a (sym e))
  at_below (x ∷ xs) zero a e = omega arith
  at_below (x ∷ xs) (suc i) a e = let h = at_below xs i a e in omega arith

  pub only_one : (x a : A) (i : ℕ) → get_elem? (x ∷ []) i ≡ some a → x ≡ a
  only_one x a zero e = some-injective x a e
  only_one x a (suc i) e = absurd (some-ne-none a (sym e))

  pub begins_more : (xs ys zs : List A) → Begins xs ys → Begins xs (ys ++ zs)
  begins_more xs ys zs b = (b.0 ++ zs, sym (append_assoc xs b.0 zs) ∙ ap (λ l. l ++ zs) b.1)

  pub begins_self : (xs : List A) → Begins xs xs
  begins_self xs = ([], append-nil xs)

module _ {A R : Type 0} where
  kept_append : (b : Bool) (e : Entry A R) (xs ys : List (Entry A R)) → kept b e (xs ++ ys) ≡ kept b e xs ++ ys
  kept_append true e xs ys = refl
  kept_append false e xs ys = refl

  pub own_append : (p : ℕ) (xs ys : List (Entry A R)) → own p (xs ++ ys) ≡ own p xs ++ own p ys
  own_append p [] ys = refl
  own_append p (e ∷ xs) ys = ap (kept (e.pass == p) e) (own_append p xs ys) ∙ kept_append (e.pass == p) e (own p xs) (own p ys)

  pub own_mine : (p : ℕ) (a : A) (r : R) (log : List (Entry A R)) → own p (log ++ entry p a r ∷ []) ≡ own p log ++ entry p a r ∷ []
  own_mine p a r log = own_append p log (entry p a r ∷ []) ∙ ap (λ b. own p log ++ kept b (entry p a r) []) (eq-eqb p p refl)

  pub own_other : (p q : ℕ) (a : A) (r : R) (log : List (Entry A R)) → p ≢ q → own q (log ++ entry p a r ∷ []) ≡ own q log
  own_other p q a r log ne = own_append q log (entry p a r ∷ []) ∙ ap (λ b. own q log ++ kept b (entry p a r) []) (ne_eqb p q ne) ∙ append-nil (own q log)

module _ {V A R : Type 0} where
  pub total_set : (f : View V A R → ℕ) (l : List (View V A R)) (i : ℕ) (v w : View V A R) → get_elem? l i ≡ some v → total f (set l i w) + f v ≡ total f l + f w
  total_set f [] i v w e = absurd (some-ne-none v (sym e))
  total_set f (x ∷ xs) zero v w e = let p = ap f (some-injective x v e) in omega arith
  total_set f (x ∷ xs) (suc i) v w e = let p = total_set f xs i v w e in omega arith

  pub total_snoc : (f : View V A R → ℕ) (l : List (View V A R)) (w : View V A R) → total f (l ++ w ∷ []) ≡ total f l + f w
  total_snoc f [] w = omega arith
  total_snoc f (x ∷ xs) w = let p = total_snoc f xs w in omega arith

  pub total_most : (f : View V A R → ℕ) → ((v : View V A R) → f v ≤ 65536) → (l : List (View V A R)) → total f l ≤ 65536 * length l
  total_most f h [] = omega arith
  total_most f h (x ∷ xs) = let p = total_most f h xs in let q = h x in omega arith

  pub total_le : (f : View V A R → ℕ) → ((v : View V A R) → f v ≤ 1) → (l : List (View V A R)) → total f l ≤ length l
  total_le f h [] = omega arith
  total_le f h (x ∷ xs) = let p = total_le f h xs in let q = h x in omega arith

pub less_is : (n : ℕ) → 0 < n → n ≡ one_less n + 1
less_is zero h = absurd (omega arith)
less_is (suc n) h = omega arith

pub late_le : (o : Option ℕ) (m : ℕ) → late o m ≤ 65536
late_le None m = omega arith
late_le (Some t) m = by_bool (ltb (t + m) 1125899906842624) (λ e. rw e (omega arith)) (λ e. rw e (omega arith))

pub ended_le : (b : Bool) (o : Option ℕ) (m : ℕ) → cond b 65536 (late o m) ≤ 65536
ended_le true o m = omega arith
ended_le false o m = late_le o m

-- tickets that are too late are counted
pub late_counts : (n m x : ℕ) → m < 65536 → n ≤ 1125899906842624 + x → n + (m + 1) ≤ 1125899906842624 + (x + late (Some n) m)
late_counts n m x few h = dite (dec_le 1125899906842624 (n + m)) (λ le. rw (le-ltb (n + m) 1125899906842624 le) (omega arith)) (λ n_le. omega arith)

-- tickets are drawn, with places or without
pub draws_waiting : (n m t t' l : ℕ) → t' ≡ t + placed (Some n) m → HavePlaces n (t + l) → HavePlaces (n + (m + 1)) (t' + l)
draws_waiting n m t t' l e h = dite (dec_le 1125899906842624 n)
    (λ le. let x = h.1 le in ((λ small. absurd (omega arith)), λ big. omega arith))
    (λ n_le. let x = h.0 (omega arith) in ((λ small. omega arith), (λ big. omega arith)))

-- no place waits for a pass that was refused, or that has no ticket
pub none_waits : (b : Bool) (o : Option ℕ) (m : ℕ) → TicketIs b o → placed o m ≡ 0
none_waits true o m x = ap (λ (k : Option ℕ). placed k m) x.1 ∙ (let late = x.2 in omega arith)
none_waits false o m x = ap (λ (k : Option ℕ). placed k m) x

-- the first of the tickets is used
pub after_among : (o : Option ℕ) (m n t : ℕ) → o ≡ Some n → IsAmong (ticket_after o m) (one_less m) t → IsAmong o m t × (n < t)
after_among None m n t e h = absurd (none-some n e)
after_among (Some a) zero n t e h = absurd (none-some h.0 h.1)
after_among (Some a) (suc m) n t e h = let is = some_is a n e in let next = some_is (a + 1) h.0 h.1 in let low = h.2 in let high = h.3 in ((a, refl, omega arith, omega arith), omega arith)

pub after_placed : (o : Option ℕ) (m n : ℕ) → o ≡ Some n → n < 1125899906842624 → placed o m ≡ placed (ticket_after o m) (one_less m) + 1
after_placed None m n e h = absurd (none-some n e)
after_placed (Some a) zero n e h = let is = some_is a n e in omega arith
after_placed (Some a) (suc m) n e h = let is = some_is a n e in omega arith

pub after_late : (o : Option ℕ) (m n : ℕ) → o ≡ Some n → n < 1125899906842624 → late (ticket_after o m) (one_less m) ≡ late o m
after_late None m n e h = absurd (none-some n e)
after_late (Some a) zero n e h = let is = some_is a n e in sym (ap (λ b. cond b 0 65536) (lt-ltb (a + 0) 1125899906842624 (omega arith)))
after_late (Some a) (suc m) n e h = ap (λ k. cond (ltb k 1125899906842624) 0 65536) (omega arith)

module _ {V A R : Type 0} where
  pub has_first : (v : View V A R) (t : ℕ) → v.ticket ≡ Some t → HasTicket v t
  has_first v t e = (t, e, omega arith, omega arith)

module _ {X : Type 0} where
  abbrev all_but : List X → List X
  all_but [] = []
  all_but (x ∷ []) = []
  all_but (x ∷ y ∷ ys) = x ∷ all_but (y ∷ ys)

  abbrev last_or : X → List X → X
  last_or d [] = d
  last_or d (x ∷ xs) = last_or x xs

  all_but_snoc : (xs : List X) (x : X) → all_but (xs ++ x ∷ []) ≡ xs
  all_but_snoc [] x = refl
  all_but_snoc (y ∷ []) x = refl
  all_but_snoc (y ∷ z ∷ zs) x = ap (λ l. y ∷ l) (all_but_snoc (z ∷ zs) x)

  last_snoc : (d : X) (xs : List X) (x : X) → last_or d (xs ++ x ∷ []) ≡ x
  last_snoc d [] x = refl
  last_snoc d (y ∷ ys) x = last_snoc y ys x

  pub no_snoc : (xs : List X) (x : X) → [] ≡ xs ++ x ∷ [] → ⊥
  no_snoc xs x e = let l = ap length e in let k = length-append xs (x ∷ []) in omega arith

  -- the two lists and their last elements are the same
  pub snoc_same : (xs ys : List X) (x y : X) → xs ++ x ∷ [] ≡ ys ++ y ∷ [] → (xs ≡ ys) × (x ≡ y)
  snoc_same xs ys x y e = (sym (all_but_snoc xs x) ∙ (ap all_but e ∙ all_but_snoc ys y), sym (last_snoc x xs x) ∙ (ap (last_or x) e ∙ last_snoc x ys y))

module _ {A R : Type 0} (may : List (Entry A R) → A → Type 0) where
  met_is : (l log : List (Entry A R)) (e : Entry A R) → l ≡ log ++ e ∷ [] → Met may l → Met may log × may (own e.pass log) e.act
  met_is _ log e is none = absurd (no_snoc log e is)
  met_is _ log e is (next before x m ok) = let s = snoc_same before log x e is in
      (subst (Met may) s.0 m, subst (λ (z : List (Entry A R) × Entry A R). may (own z.1.pass z.0) z.1.act) (λ i. (s.0 i, s.1 i)) ok)

  -- the last entry met `may`, and those before it did
  pub met_last : (log : List (Entry A R)) (e : Entry A R) → Met may (log ++ e ∷ []) → Met may log × may (own e.pass log) e.act
  met_last log e m = met_is (log ++ e ∷ []) log e refl m
