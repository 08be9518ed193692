-- The first place that passes a test, as a list grows, shrinks and changes.
use Rattle.std.proofs.Common.{◌≡◌, ℕ, zero, suc, ◌+◌, Bool, true, false, List, [], ◌∷◌, ◌++◌, length, set, remove, position, slice_get, Option, Some, None, option_map, cond, refl, ◌∙◌, ap, arith}
use Rattle.std.proofs.lemmas.Bool.Decides.{nat_tests}
use Rattle.il_machine.specs.Places.{first_place, AtMostOne, shift}

mapped_none : (o : Option ℕ) → option_map suc o ≡ None → o ≡ None
mapped_none None h = refl
mapped_none (Some k) h = absurd cc

shift_zero : (o : Option ℕ) → option_map (shift 0) o ≡ option_map suc o
shift_zero None = refl
shift_zero (Some k) = let e : k + 1 ≡ suc k = omega arith in grind (arith, nat_tests)

shift_suc : (k : ℕ) (o : Option ℕ) → option_map (shift (suc k)) (option_map suc o) ≡ option_map suc (option_map (shift k) o)
shift_suc k None = refl
shift_suc k (Some i) = grind (arith, nat_tests)

shift_first : (k : ℕ) → shift (suc k) 0 ≡ 0
shift_first k = grind (arith, nat_tests)

mapped_zero : (o : Option ℕ) → option_map suc o ≡ Some 0 → ⊥
mapped_zero None h = cc
mapped_zero (Some k) h = let e : suc k ≡ 0 = cc in omega arith

mapped_suc : (o : Option ℕ) (i : ℕ) → option_map suc o ≡ Some (suc i) → o ≡ Some i
mapped_suc None i h = absurd cc
mapped_suc (Some k) i h = let e : suc k ≡ suc i = cc in let f : k ≡ i = omega arith in rw f refl

suc_cond : (b : Bool) (o : Option ℕ) → option_map suc (cond b None o) ≡ cond b None (option_map suc o)
suc_cond true o = refl
suc_cond false o = refl

module _ {X : Type 0} where
  position_cons : (p : X → Bool) (x : X) (xs : List X) → position p (x ∷ xs) ≡ cond (p x) (Some 0) (option_map suc (position p xs))
  position_cons p x xs = grind (arith, nat_tests)

  pub is_first_place : (p : X → Bool) (xs : List X) → position p xs ≡ first_place p xs
  is_first_place p [] = refl
  is_first_place p (x ∷ xs) = position_cons p x xs ∙ rw (is_first_place p xs) refl

  -- ---- one more at the end

  pub push_Some : (p : X → Bool) (xs : List X) (y : X) (i : ℕ) → first_place p xs ≡ Some i → first_place p (xs ++ y ∷ []) ≡ Some i
  push_Some p [] y i h = absurd cc
  push_Some p (x ∷ xs) y i h = grind (arith, push_Some p xs y)

  pub push_None : (p : X → Bool) (xs : List X) (y : X) → first_place p xs ≡ None → first_place p (xs ++ y ∷ []) ≡ cond (p y) (Some (length xs)) None
  push_None p [] y h = refl
  push_None p (x ∷ xs) y h = let m = mapped_none (first_place p xs) in grind (arith, push_None p xs y)

  pub once_push : (p : X → Bool) (xs : List X) (y : X) → AtMostOne p xs → (p y ≡ true → first_place p xs ≡ None) → AtMostOne p (xs ++ y ∷ [])
  once_push p [] y o h = ((λ e. refl), tt)
  once_push p (x ∷ xs) y o h = (
    (λ e.
        let n = o.0 e in
        let q : p y ≡ false = elim (p y) as (λ v. p y ≡ v → v ≡ false) [ true ↦ λ t. let a = h t in absurd (grind arith) | false ↦ λ t. refl ] refl in
        push_None p xs y n ∙ rw q refl),
    once_push p xs y o.1 (λ e. let a = h e in let m = mapped_none (first_place p xs) in grind arith),
  )

  pub none_at : (p : X → Bool) (xs : List X) (i : ℕ) (y : X) → first_place p xs ≡ None → slice_get xs i ≡ Some y → p y ≡ false
  none_at p [] i y n h = absurd cc
  none_at p (x ∷ xs) zero y n h = grind arith
  none_at p (x ∷ xs) (suc i) y n h = let m = mapped_none (first_place p xs) in let a : first_place p xs ≡ None = grind arith in none_at p xs i y a h

  -- the place of the one that passes
  pub place_at : (p : X → Bool) (xs : List X) (i : ℕ) (y : X) → AtMostOne p xs → slice_get xs i ≡ Some y → p y ≡ true → first_place p xs ≡ Some i
  place_at p [] i y o h e = absurd cc
  place_at p (x ∷ xs) zero y o h e = grind arith
  place_at p (x ∷ xs) (suc i) y o h e =
      let q : p x ≡ false = elim (p x) as (λ v. p x ≡ v → v ≡ false) [ true ↦ λ t. let a = none_at p xs i y (o.0 t) h in absurd (grind arith) | false ↦ λ t. refl ] refl in
      let r = place_at p xs i y o.1 h e in
      rw (q, r) refl

  -- what stands at the place passes
  pub passes_at : (p : X → Bool) (xs : List X) (i : ℕ) → first_place p xs ≡ Some i → (y : X) × (slice_get xs i ≡ Some y) × (p y ≡ true)
  passes_at p [] i h = absurd cc
  passes_at p (x ∷ xs) zero h = (
    x,
    refl,
    elim (p x) as (λ v. cond v (Some 0) (option_map suc (first_place p xs)) ≡ Some 0 → v ≡ true)
        [ true ↦ λ e. refl | false ↦ λ e. absurd (mapped_zero (first_place p xs) e) ] h,
  )
  passes_at p (x ∷ xs) (suc i) h = elim (p x) as (λ v. cond v (Some 0) (option_map suc (first_place p xs)) ≡ Some (suc i) → (y : X) × (slice_get xs i ≡ Some y) × (p y ≡ true))
      [ true ↦ λ e. let f : 0 ≡ suc i = cc in absurd (omega arith) | false ↦ λ e. passes_at p xs i (mapped_suc (first_place p xs) i e) ] h

  -- ---- one less

  pub place_removed : (p : X → Bool) (xs : List X) (i : ℕ) (y : X) → AtMostOne p xs → slice_get xs i ≡ Some y → option_map (shift i) (first_place p (remove xs i)) ≡ cond (p y) None (first_place p xs)
  place_removed p [] i y o h = absurd cc
  place_removed p (x ∷ xs) zero y o h =
      let e : x ≡ y = cc in
      rw (← e) (elim (p x) as (λ v. p x ≡ v → option_map (shift 0) (first_place p xs) ≡ cond v None (cond v (Some 0) (option_map suc (first_place p xs))))
      [ true ↦ λ t. rw (o.0 t) refl | false ↦ λ t. shift_zero (first_place p xs) ] refl)
  place_removed p (x ∷ xs) (suc i) y o h =
      let r = place_removed p xs i y o.1 h in
      elim (p x) as (λ v. p x ≡ v → option_map (shift (suc i)) (cond v (Some 0) (option_map suc (first_place p (remove xs i)))) ≡ cond (p y) None (cond v (Some 0) (option_map suc (first_place p xs)))) [
        | true ↦ λ t. rw (none_at p xs i y (o.0 t) h, shift_first i) refl
        | false ↦ λ t. shift_suc i (first_place p (remove xs i)) ∙ (ap (option_map suc) r ∙ suc_cond (p y) (first_place p xs))
      ] refl

  none_removed : (p : X → Bool) (xs : List X) (i : ℕ) → first_place p xs ≡ None → first_place p (remove xs i) ≡ None
  none_removed p [] zero h = refl
  none_removed p [] (suc i) h = refl
  none_removed p (x ∷ xs) zero h = let m = mapped_none (first_place p xs) in grind arith
  none_removed p (x ∷ xs) (suc i) h = let m = mapped_none (first_place p xs) in let a : first_place p xs ≡ None = grind arith in let b = none_removed p xs i a in grind arith

  pub once_removed : (p : X → Bool) (xs : List X) (i : ℕ) → AtMostOne p xs → AtMostOne p (remove xs i)
  once_removed p [] zero o = tt
  once_removed p [] (suc i) o = tt
  once_removed p (x ∷ xs) zero o = o.1
  once_removed p (x ∷ xs) (suc i) o = ((λ t. none_removed p xs i (o.0 t)), once_removed p xs i o.1)

  -- ---- one changed

  pub place_set : (p : X → Bool) (xs : List X) (i : ℕ) (x y : X) → slice_get xs i ≡ Some x → p y ≡ p x → first_place p (set xs i y) ≡ first_place p xs
  place_set p [] i x y h e = refl
  place_set p (z ∷ xs) zero x y h e = let s : z ≡ x = cc in rw (e, s) refl
  place_set p (z ∷ xs) (suc i) x y h e = rw (place_set p xs i x y h e) refl

  pub once_set : (p : X → Bool) (xs : List X) (i : ℕ) (x y : X) → slice_get xs i ≡ Some x → p y ≡ p x → AtMostOne p xs → AtMostOne p (set xs i y)
  once_set p [] i x y h e o = tt
  once_set p (z ∷ xs) zero x y h e o = let s : z ≡ x = cc in ((λ t. o.0 (grind arith)), o.1)
  once_set p (z ∷ xs) (suc i) x y h e o = ((λ t. place_set p xs i x y h e ∙ o.0 t), once_set p xs i x y h e o.1)
