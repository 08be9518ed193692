-- The registry gives each live handle's place again, after a component was removed.
use Rattle.std.proofs.Common.{◌≡◌, ◌≢◌, ℕ, zero, suc, ◌+◌, ◌<◌, Bool, true, false, List, [], ◌∷◌, length, remove, slice_get, Option, Some, None, IsSome, option_map, cond, refl, sym, ◌∙◌, ap, subst, arith}
use Rattle.std.proofs.lemmas.Bool.Decides.{nat_tests}
use Rattle.std.proofs.lemmas.Option.{slice_get_within}
use Rattle.omx_types.specs.declared.handle.Handle.{Handle}
use Rattle.il_machine.specs.World.{same_handle}
use Rattle.il_machine.specs.Places.{first_place, shift}
use Rattle.il_machine.proofs.Places.{place_removed, once_removed, place_at, passes_at}
use Rattle.registry.specs.Handles.{Handles, resolved, AllGiven, Removes, Sets}
use Rattle.il_component.specs.Entries.{Entry}
use Rattle.graph_core.specs.Entries.{entry_place, is_entry_at}
use Rattle.graph_core.specs.Registered.{Registered, Shifted}
use Rattle.graph_core.proofs.Registering.{same_symmetric, same_fields, place_is}

differs : {b : Bool} → b ≡ true → b ≡ false → ⊥
differs {b} t f = let e : true ≡ false = sym t ∙ f in cc

shift_same : (k : ℕ) → shift (k + 1) k ≡ k
shift_same k = grind (arith, nat_tests)

shift_other : (k p : ℕ) → p ≢ k → shift k p ≡ shift (k + 1) p
shift_other k p d = grind (arith, nat_tests)

shift_within : (n p : ℕ) → p < n → shift n p ≡ p
shift_within n p b = grind (arith, nat_tests)

pub sets_given : (r t : Handles ℕ) (h : Handle) (v : ℕ) → AllGiven r → IsSome (resolved r h) → Sets r t h v → AllGiven t
sets_given r t h v A there S k some = elim (same_handle k h) as (λ b. same_handle k h ≡ b → k.generation < t.given) [
  | true ↦ λ e. let f = same_fields k h e in let a = A h there in let g = S.given in omega arith
  | false ↦ λ e. let q : resolved t k ≡ resolved r k = S.resolves k ∙ rw e refl in let a = A k (subst (λ (o : Option ℕ). IsSome o) q some) in let g = S.given in omega arith
] refl

pub removed_length : {X : Type 0} (xs : List X) (i : ℕ) → i < length xs → length (remove xs i) + 1 ≡ length xs
removed_length [] i b = absurd (omega arith)
removed_length (x ∷ xs) zero b = omega arith
removed_length (x ∷ xs) (suc i) b = let l = removed_length xs i (omega arith) in omega arith

module _ {C : Type 0} where
  pub shifted_start : (es : List (Entry C)) (r t : Handles ℕ) (i : ℕ) (e : Entry C) → Registered es r → slice_get es i ≡ Some e → Removes r t e.handle → Shifted i (remove es i) t
  shifted_start es r t i e S there R = record {
    places = λ h. R.resolves h ∙ (rw (S.registered h, same_symmetric h e.handle) (sym (place_removed (is_entry_at h) es i e (S.once h) there)));
    once = λ h. once_removed (is_entry_at h) es i (S.once h);
  }

  pub shifted_there : (es : List (Entry C)) (r : Handles ℕ) (k : ℕ) (e : Entry C) → Shifted k es r → slice_get es k ≡ Some e → resolved r e.handle ≡ Some (shift k k)
  shifted_there es r k e F there =
      let h = e.handle in
      let p : is_entry_at h e ≡ true = grind (arith, nat_tests) in
      F.places h ∙ rw (place_at (is_entry_at h) es k e (F.once h) there p) refl

  other_place : (es : List (Entry C)) (h : Handle) (k : ℕ) (e : Entry C) → slice_get es k ≡ Some e → is_entry_at h e ≡ false → (o : Option ℕ) → first_place (is_entry_at h) es ≡ o → option_map (shift k) o ≡ option_map (shift (k + 1)) o
  other_place es h k e there q None n = refl
  other_place es h k e there q (Some p) n =
      let s = passes_at (is_entry_at h) es p n in
      let d : p ≢ k = λ x. let y : slice_get es k ≡ Some s.0 = subst (λ (j : ℕ). slice_get es j ≡ Some s.0) x s.1 in let z : s.0 ≡ e = cc in absurd (differs (subst (λ (w : Entry C). is_entry_at h w ≡ true) z s.2) q) in
      ap Some (shift_other k p d)

  pub shifted_step : (es : List (Entry C)) (r t : Handles ℕ) (k : ℕ) (e : Entry C) → Shifted k es r → slice_get es k ≡ Some e → Sets r t e.handle k → Shifted (k + 1) es t
  shifted_step es r t k e F there T = record {
    places = λ h. T.resolves h ∙ elim (same_handle h e.handle) as (λ v. same_handle h e.handle ≡ v → cond v (Some k) (resolved r h) ≡ option_map (shift (k + 1)) (first_place (is_entry_at h) es)) [
      | true ↦ λ s.
          let p : is_entry_at h e ≡ true = same_symmetric e.handle h ∙ s in
          rw (place_at (is_entry_at h) es k e (F.once h) there p, shift_same k) refl
      | false ↦ λ s.
          let q : is_entry_at h e ≡ false = same_symmetric e.handle h ∙ s in
          F.places h ∙ other_place es h k e there q (first_place (is_entry_at h) es) refl
    ] refl;
    once = F.once;
  }

  end_place : (es : List (Entry C)) (h : Handle) (o : Option ℕ) → first_place (is_entry_at h) es ≡ o → option_map (shift (length es)) o ≡ o
  end_place es h None n = refl
  end_place es h (Some p) n = let s = passes_at (is_entry_at h) es p n in ap Some (shift_within (length es) p (slice_get_within es p s.0 s.1))

  pub shifted_end : (es : List (Entry C)) (r : Handles ℕ) (k : ℕ) → Shifted k es r → k ≡ length es → (h : Handle) → resolved r h ≡ first_place (is_entry_at h) es
  shifted_end es r k F e h = F.places h ∙ rw e (end_place es h (first_place (is_entry_at h) es) refl)

  pub sound_there : (es : List (Entry C)) (r : Handles ℕ) (k : ℕ) (e : Entry C) → Registered es r → slice_get es k ≡ Some e → resolved r e.handle ≡ Some k
  sound_there es r k e S there =
      let h = e.handle in
      let p : is_entry_at h e ≡ true = grind (arith, nat_tests) in
      S.registered h ∙ place_at (is_entry_at h) es k e (S.once h) there p

  -- the handle of the component at a place names that place
  pub own_place : (es : List (Entry C)) (r : Handles ℕ) (k : ℕ) (e : Entry C) → Registered es r → slice_get es k ≡ Some e → entry_place e.handle es ≡ Some k
  own_place es r k e S there = sym (place_is es r e.handle S) ∙ sound_there es r k e S there
