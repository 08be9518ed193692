-- The marks of a graph, as its components change.
use Rattle.std.proofs.Common.{◌≡◌, inl, inr, ℕ, ◌<◌, Bool, true, false, not, ◌&&◌, ◌||◌, nat_eq, List, [], ◌∷◌, ◌++◌, length, set, remove, Some, None, slice_get, refl, sym, ◌∙◌, ap, subst, arith, length-set, length-append}
use Rattle.std.proofs.lemmas.Bool.{false≢true, cases_lt, le-ltb}
use Rattle.std.proofs.lemmas.Bool.Decides.{eqb_tells}
use Rattle.std.proofs.lemmas.Option.{slice_get_within}
use Rattle.bit_set.specs.Members.{has, moved_down, IsNext}
use Rattle.il_machine.specs.Ports.{IsCalm}
use Rattle.il_machine.specs.Due.{due_in, has_due}
use Rattle.il_machine.specs.Headers.{Seen}
use Rattle.il_machine.proofs.Calm.{calm_due}
use Rattle.stock_laws.proofs.Lists.{get_set_same, get_set_other, get_last, get_removed}
use Rattle.il_component.specs.Entries.{Entry, component_of}
use Rattle.graph_core.specs.Marking.{AreMarked}
use Rattle.graph_core.proofs.Happens.{NoneBefore}
use Rattle.graph_core.proofs.Renumbered.{removed_length}

-- ---- one bit of a set that changed

kept_bit : (a b : Bool) → a ≡ false → a || b ≡ b
kept_bit true b e = absurd cc
kept_bit false b e = refl

left_bit : (a b : Bool) → a ≡ false → (not a && b) ≡ b
left_bit true b e = absurd cc
left_bit false b e = refl

set_bit : (a b : Bool) → a ≡ true → (a || b) ≡ true
set_bit true b e = refl
set_bit false b e = absurd cc

gone_bit : (a b : Bool) → a ≡ true → (not a && b) ≡ false
gone_bit true b e = refl
gone_bit false b e = absurd cc

module _ {C : Type 0} where
  pub marked_none : (marks : ℕ) → ((i : ℕ) → has marks i ≡ false) → AreMarked {C = C} [] marks
  marked_none marks f = record {
    there = λ i h. absurd (false≢true (sym (f i) ∙ h));
    calm = λ i e at h. absurd cc;
  }

  module _ (es : List (Entry C)) (marks i : ℕ) (e d : Entry C) (M : AreMarked es marks) (at : slice_get es i ≡ Some e) where
    set_here : (j : ℕ) (x : Entry C) → j ≡ i → slice_get (set es i d) j ≡ Some x → x ≡ d
    set_here j x q at' = let two : Some x ≡ Some d = sym at' ∙ (ap (slice_get (set es i d)) q ∙ get_set_same es i e d at) in cc

    -- the component of the place stays calm where it was
    pub marked_set : (IsCalm (component_of e) → IsCalm (component_of d)) → AreMarked (set es i d) marks
    marked_set keeps = record {
      there = λ j h. subst (λ (n : ℕ). j < n) (sym (length-set es i d)) (M.there j h);
      calm = λ j x at' h. elim (eqb_tells j i) [
        | inl q ↦
            let y : d ≡ x = sym (set_here j x q.1 at') in
            subst (λ (z : Entry C). IsCalm (component_of z)) y (keeps (M.calm i e at (ap (has marks) (sym q.1) ∙ h)))
        | inr q ↦ M.calm j x (sym (get_set_other es i j d q.1) ∙ at') h
      ];
    }

    -- the place of the component that changes is marked
    pub marked_more : (more : ℕ) → ((j : ℕ) → has more j ≡ (nat_eq j i || has marks j)) → AreMarked (set es i d) more
    marked_more more f = record {
      there = λ j h. subst (λ (n : ℕ). j < n) (sym (length-set es i d)) (elim (eqb_tells j i) [
        | inl q ↦ subst (λ (n : ℕ). n < length es) (sym q.1) (slice_get_within es i e at)
        | inr q ↦ M.there j (sym (f j ∙ kept_bit (nat_eq j i) (has marks j) q.0) ∙ h)
      ]);
      calm = λ j x at' h. elim (eqb_tells j i) [
        | inl q ↦ absurd (false≢true (sym h ∙ (f j ∙ set_bit (nat_eq j i) (has marks j) q.0)))
        | inr q ↦ M.calm j x (sym (get_set_other es i j d q.1) ∙ at') (sym (f j ∙ kept_bit (nat_eq j i) (has marks j) q.0) ∙ h)
      ];
    }

  -- a calm component loses its mark
  pub marked_less : (es : List (Entry C)) (marks less i : ℕ) (e : Entry C) → AreMarked es marks → slice_get es i ≡ Some e → IsCalm (component_of e) → ((j : ℕ) → has less j ≡ (not (nat_eq j i) && has marks j)) → AreMarked es less
  marked_less es marks less i e M at rests f = record {
    there = λ j h. elim (eqb_tells j i) [
      | inl q ↦ absurd (false≢true (sym (f j ∙ gone_bit (nat_eq j i) (has marks j) q.0) ∙ h))
      | inr q ↦ M.there j (sym (f j ∙ left_bit (nat_eq j i) (has marks j) q.0) ∙ h)
    ];
    calm = λ j x at' h. elim (eqb_tells j i) [
      | inl q ↦
          let two : Some e ≡ Some x = sym at ∙ (ap (slice_get es) (sym q.1) ∙ at') in
          let y : e ≡ x = cc in
          subst (λ (z : Entry C). IsCalm (component_of z)) y rests
      | inr q ↦ M.calm j x at' (sym (f j ∙ left_bit (nat_eq j i) (has marks j) q.0) ∙ h)
    ];
  }

  -- a calm component comes behind all others
  pub marked_push : (es : List (Entry C)) (marks : ℕ) (d : Entry C) → AreMarked es marks → IsCalm (component_of d) → AreMarked (es ++ d ∷ []) marks
  marked_push es marks d M rests = record {
    there = λ j h. let b = M.there j h in omega (arith, length-append es (d ∷ []), b);
    calm = λ j x at h. elim (get_last es j d x at) [
      | inl q ↦ M.calm j x q h
      | inr q ↦ subst (λ (z : Entry C). IsCalm (component_of z)) (sym q.1) rests
    ];
  }

  -- a component is taken out
  pub marked_down : (es : List (Entry C)) (marks down i : ℕ) → AreMarked es marks → i < length es → ((j : ℕ) → has down j ≡ has marks (moved_down i j)) → AreMarked (remove es i) down
  marked_down es marks down i M b f = record {
    there = λ j h.
        let t : moved_down i j < length es = M.there (moved_down i j) (sym (f j) ∙ h) in
        let l = removed_length es i b in
        elim (cases_lt j i) [
          | inl q ↦ omega (arith, l, b, q)
          | inr q ↦ let u = rw (le-ltb j i q) at t in omega (arith, l, u)
        ];
    calm = λ j x at h. M.calm (moved_down i j) x (sym (get_removed es i j) ∙ at) (sym (f j) ∙ h);
  }

  -- ---- the components that have no mark have nothing due

  unmarked : (headers : Seen) (es : List (Entry C)) (marks k : ℕ) (x : Entry C) → AreMarked es marks → slice_get es k ≡ Some x → has marks k ≡ false → has_due headers (component_of x) ≡ false
  unmarked headers es marks k x M at h = rw (calm_due headers (component_of x) (M.calm k x at h)) refl

  pub none_to : (headers : Seen) (es : List (Entry C)) (marks from next : ℕ) → AreMarked es marks → IsNext marks from (Some next) → NoneBefore headers es from → NoneBefore headers es next
  none_to headers es marks from next M N f k x l at = elim (cases_lt k from) [
    | inl q ↦ f k x q at
    | inr q ↦ unmarked headers es marks k x M at (N.3 k q l)
  ]

  pub none_left : (headers : Seen) (es : List (Entry C)) (marks from : ℕ) → AreMarked es marks → IsNext marks from None → NoneBefore headers es from → NoneBefore headers es (length es)
  none_left headers es marks from M N f k x l at = elim (cases_lt k from) [
    | inl q ↦ f k x q at
    | inr q ↦ unmarked headers es marks k x M at (N k q)
  ]

  -- a component that has something due isn't calm
  pub due_restless : (headers : Seen) (e : Entry C) {A : Type 0} (r : due_in headers (component_of e) ≡ None → ⊥) → IsCalm (component_of e) → A
  due_restless headers e r rests = absurd (r (calm_due headers (component_of e) rests))
