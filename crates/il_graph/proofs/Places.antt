-- The parts of components by the components' numbers, as one component leaves, comes, or gets another part.
use Rattle.std.proofs.Common.{◌≡◌, ◌≢◌, ℕ, zero, suc, true, false, List, [], ◌∷◌, ◌++◌, length, remove, set, Option, Some, None, option_map, option_and_then, slice_get, refl, sym, ◌∙◌, ap, eq-eqb, ne_eqb, arith}
use Rattle.std.proofs.lemmas.Bool.Decides.{eqb_tells}
use Rattle.std.proofs.Common.{inl, inr}
use Rattle.il_machine.specs.World.{Component, number_of, is_numbered}
use Rattle.il_machine.specs.Places.{first_place}
use Rattle.stock_laws.proofs.Lists.{get_set_other}

module _ {A B : Type 0} (f : A → Option B) where
  -- what is told of the one at a place
  abbrev pub told_at : List A → ℕ → Option B
  told_at ps i = option_and_then f (slice_get ps i)

  later : (p : A) (ps : List A) (o : Option ℕ) → option_and_then (told_at (p ∷ ps)) (option_map suc o) ≡ option_and_then (told_at ps) o
  later p ps None = refl
  later p ps (Some i) = refl

  nowhere : (o : Option ℕ) → option_and_then (told_at []) o ≡ None
  nowhere None = refl
  nowhere (Some i) = refl

  -- one of another number leaves
  pub told_left : (n i : ℕ) (cs : List Component) (ps : List A) (c : Component) → slice_get cs i ≡ Some c → number_of c ≢ n
      → option_and_then (told_at (remove ps i)) (first_place (is_numbered n) (remove cs i)) ≡ option_and_then (told_at ps) (first_place (is_numbered n) cs)
  told_left n zero [] ps c e a = absurd cc
  told_left n zero (x ∷ cs) [] c e a = nowhere (first_place (is_numbered n) cs) ∙ sym (nowhere (first_place (is_numbered n) (x ∷ cs)))
  told_left n zero (x ∷ cs) (p ∷ ps) c e a =
      let q : x ≡ c = cc in
      let t : is_numbered n x ≡ false = ne_eqb (number_of x) n (λ h. a (ap number_of (sym q) ∙ h)) in
      rw t (sym (later p ps (first_place (is_numbered n) cs)))
  told_left n (suc i) [] ps c e a = absurd cc
  told_left n (suc i) (x ∷ cs) [] c e a = nowhere (first_place (is_numbered n) (x ∷ remove cs i)) ∙ sym (nowhere (first_place (is_numbered n) (x ∷ cs)))
  told_left n (suc i) (x ∷ cs) (p ∷ ps) c e a = elim (is_numbered n x) as (λ b. is_numbered n x ≡ b → option_and_then (told_at (p ∷ remove ps i)) (first_place (is_numbered n) (x ∷ remove cs i)) ≡ option_and_then (told_at (p ∷ ps)) (first_place (is_numbered n) (x ∷ cs))) [
    | true ↦ λ t. rw t refl
    | false ↦ λ t. rw t (later p (remove ps i) (first_place (is_numbered n) (remove cs i)) ∙ (told_left n i cs ps c e a ∙ sym (later p ps (first_place (is_numbered n) cs))))
  ] refl

  -- one of another number comes
  pub told_come : (n : ℕ) (cs : List Component) (ps : List A) (c : Component) (p : A) → length ps ≡ length cs → number_of c ≢ n
      → option_and_then (told_at (ps ++ p ∷ [])) (first_place (is_numbered n) (cs ++ c ∷ [])) ≡ option_and_then (told_at ps) (first_place (is_numbered n) cs)
  told_come n [] [] c p l a = let t : is_numbered n c ≡ false = ne_eqb (number_of c) n a in rw t refl
  told_come n [] (q ∷ ps) c p l a = absurd cc
  told_come n (x ∷ cs) [] c p l a = absurd cc
  told_come n (x ∷ cs) (q ∷ ps) c p l a =
      let m : length ps ≡ length cs = omega arith in
      elim (is_numbered n x) as (λ b. is_numbered n x ≡ b → option_and_then (told_at (q ∷ (ps ++ p ∷ []))) (first_place (is_numbered n) (x ∷ (cs ++ c ∷ []))) ≡ option_and_then (told_at (q ∷ ps)) (first_place (is_numbered n) (x ∷ cs))) [
        | true ↦ λ t. rw t refl
        | false ↦ λ t. rw t (later q (ps ++ p ∷ []) (first_place (is_numbered n) (cs ++ c ∷ [])) ∙ (told_come n cs ps c p m a ∙ sym (later q ps (first_place (is_numbered n) cs))))
      ] refl

  -- what is told of the one that came
  pub told_new : (n : ℕ) (cs : List Component) (ps : List A) (c : Component) (p : A) → length ps ≡ length cs → number_of c ≡ n → first_place (is_numbered n) cs ≡ None
      → option_and_then (told_at (ps ++ p ∷ [])) (first_place (is_numbered n) (cs ++ c ∷ [])) ≡ f p
  told_new n [] [] c p l e none = let t : is_numbered n c ≡ true = eq-eqb (number_of c) n e in rw t refl
  told_new n [] (q ∷ ps) c p l e none = absurd cc
  told_new n (x ∷ cs) [] c p l e none = absurd cc
  told_new n (x ∷ cs) (q ∷ ps) c p l e none =
      let m : length ps ≡ length cs = omega arith in
      elim (is_numbered n x) as (λ b. is_numbered n x ≡ b → option_and_then (told_at (q ∷ (ps ++ p ∷ []))) (first_place (is_numbered n) (x ∷ (cs ++ c ∷ []))) ≡ f p) [
        | true ↦ λ t. let z : Some 0 ≡ None = rw t at none in absurd cc
        | false ↦ λ t.
            let z : option_map suc (first_place (is_numbered n) cs) ≡ None = rw t at none in
            rw t (later q (ps ++ p ∷ []) (first_place (is_numbered n) (cs ++ c ∷ [])) ∙ told_new n cs ps c p m e (none_before (first_place (is_numbered n) cs) z))
      ] refl
    where
      none_before : (o : Option ℕ) → option_map suc o ≡ None → o ≡ None
      none_before None h = refl
      none_before (Some k) h = absurd cc

  -- the one at another place is changed
  pub told_set : (ps : List A) (i : ℕ) (p : A) (o : Option ℕ) → o ≢ Some i → option_and_then (told_at (set ps i p)) o ≡ option_and_then (told_at ps) o
  told_set ps i p None a = refl
  told_set ps i p (Some j) a = elim (eqb_tells j i) [ inl e ↦ absurd (a (ap (λ (k : ℕ). Some k) e.1)) | inr e ↦ ap (option_and_then f) (get_set_other ps i j p e.1) ]

-- two lists of one length each lose the one at the place
pub removed_alike : {X Y : Type 0} (xs : List X) (ys : List Y) (i : ℕ) → length xs ≡ length ys → length (remove xs i) ≡ length (remove ys i)
removed_alike [] [] zero l = refl
removed_alike [] [] (suc i) l = refl
removed_alike [] (y ∷ ys) i l = absurd cc
removed_alike (x ∷ xs) [] i l = absurd cc
removed_alike (x ∷ xs) (y ∷ ys) zero l = omega arith
removed_alike (x ∷ xs) (y ∷ ys) (suc i) l =
    let m : length xs ≡ length ys = omega arith in
    let h = removed_alike xs ys i m in
    omega arith
