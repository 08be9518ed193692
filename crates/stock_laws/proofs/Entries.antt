-- One entry of a list is replaced, added or taken out.
use Rattle.std.proofs.Common.{◌≡◌, ℕ, zero, suc, ◌<◌, List, [], ◌∷◌, ◌++◌, length, set, remove, Some, slice_get, All, get_or, refl, sym, ◌∙◌, ap, subst, arith}
use Rattle.std.proofs.lemmas.List.Elements.{All-append}
use Rattle.il_machine.specs.Whole.{Noticed}
use Rattle.stock_laws.specs.Entries.{all_held}

module _ {X : Type 0} where
  pub set_same : (xs : List X) (i : ℕ) (x : X) → slice_get xs i ≡ Some x → set xs i x ≡ xs
  set_same [] i x h = refl
  set_same (a ∷ xs) zero x h = let e : a ≡ x = cc in ap (λ (y : X). y ∷ xs) (sym e)
  set_same (a ∷ xs) (suc i) x h = ap (λ (ys : List X). a ∷ ys) (set_same xs i x h)

  all_left : (P : X → Type 0) (xs ys : List X) → All P (xs ++ ys) → All P xs
  all_left P [] ys h = λ k d b. absurd (omega arith)
  all_left P (x ∷ xs) ys h = λ k. elim k as (λ k. (d : X) → k < length (x ∷ xs) → P (get_or (x ∷ xs) k d))
      [ zero ↦ λ d b. h 0 d (omega arith) | suc k ↦ λ d b. all_left P xs ys (λ j e q. h (suc j) e (omega arith)) k d (omega arith) ]

  all_right : (P : X → Type 0) (xs ys : List X) → All P (xs ++ ys) → All P ys
  all_right P [] ys h = h
  all_right P (x ∷ xs) ys h = all_right P xs ys (λ j e q. h (suc j) e (omega arith))

module _ {E : Type 0} (held : E → List Noticed) where
  pub held_same : (es : List E) (i : ℕ) (e d : E) → slice_get es i ≡ Some e → held d ≡ held e → all_held held (set es i d) ≡ all_held held es
  held_same [] i e d h s = refl
  held_same (a ∷ es) zero e d h s = let q : a ≡ e = cc in ap (λ (x : List Noticed). x ++ all_held held es) (s ∙ ap held (sym q))
  held_same (a ∷ es) (suc i) e d h s = ap (λ (x : List Noticed). held a ++ x) (held_same es i e d h s)

  -- what holds of all headers in notes, and of those that the new entry has, holds of all then
  pub held_set : (P : Noticed → Type 0) (es : List E) (i : ℕ) (e d : E) → slice_get es i ≡ Some e → (All P (held e) → All P (held d)) → All P (all_held held es) → All P (all_held held (set es i d))
  held_set P [] i e d h s A = A
  held_set P (a ∷ es) zero e d h s A =
      let q : a ≡ e = cc in
      All-append P (held d) (all_held held es) (s (subst (λ (x : E). All P (held x)) q (all_left P (held a) (all_held held es) A))) (all_right P (held a) (all_held held es) A)
  held_set P (a ∷ es) (suc i) e d h s A =
      All-append P (held a) (all_held held (set es i d)) (all_left P (held a) (all_held held es) A) (held_set P es i e d h s (all_right P (held a) (all_held held es) A))

  pub held_removed : (P : Noticed → Type 0) (es : List E) (i : ℕ) → All P (all_held held es) → All P (all_held held (remove es i))
  held_removed P [] zero A = A
  held_removed P [] (suc i) A = A
  held_removed P (a ∷ es) zero A = all_right P (held a) (all_held held es) A
  held_removed P (a ∷ es) (suc i) A =
      All-append P (held a) (all_held held (remove es i)) (all_left P (held a) (all_held held es) A) (held_removed P es i (all_right P (held a) (all_held held es) A))

  pub held_added : (es : List E) (d : E) → held d ≡ [] → all_held held (es ++ d ∷ []) ≡ all_held held es
  held_added [] d s = rw s refl
  held_added (a ∷ es) d s = ap (λ (x : List Noticed). held a ++ x) (held_added es d s)

  -- what holds of all headers in notes holds of those of one entry
  pub held_at : (P : Noticed → Type 0) (es : List E) (i : ℕ) (e : E) → slice_get es i ≡ Some e → All P (all_held held es) → All P (held e)
  held_at P [] i e h A = absurd cc
  held_at P (a ∷ es) zero e h A = let q : a ≡ e = cc in subst (λ (x : E). All P (held x)) q (all_left P (held a) (all_held held es) A)
  held_at P (a ∷ es) (suc i) e h A = held_at P es i e h (all_right P (held a) (all_held held es) A)
