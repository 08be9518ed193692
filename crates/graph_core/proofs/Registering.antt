-- The registry gives each live handle's place: as components are added and changed.
use Rattle.std.proofs.Common.{◌≡◌, ℕ, ◌+◌, ◌<◌, true, false, List, [], ◌∷◌, ◌++◌, length, set, slice_get, Option, Some, None, IfSome, IsSomeAnd, option_and_then, cond, refl, sym, ◌∙◌, ap, subst, arith, length-append, length-set}
use Rattle.std.proofs.lemmas.Bool.Decides.{nat_tests}
use Rattle.std.proofs.lemmas.Option.{slice_get_within}
use Rattle.omx_types.specs.declared.handle.Handle.{Handle}
use Rattle.il_machine.specs.World.{same_handle}
use Rattle.il_machine.specs.Places.{first_place}
use Rattle.il_machine.proofs.Places.{is_first_place, push_Some, push_None, once_push, place_at, place_set, once_set, passes_at}
use Rattle.registry.specs.Handles.{Handles, resolved, live, AllGiven, Gives, is_full, entry_at}
use Rattle.il_component.specs.Entries.{Entry}
use Rattle.graph_core.specs.Entries.{is_entry_at, entry_place}
use Rattle.graph_core.specs.Registered.{Registered}

pub same_symmetric : (a b : Handle) → same_handle a b ≡ same_handle b a
same_symmetric a b = grind (arith, nat_tests)

pub same_fields : (a b : Handle) → same_handle a b ≡ true → (a.slot ≡ b.slot) × (a.generation ≡ b.generation)
same_fields a b h = (grind (arith, nat_tests), grind (arith, nat_tests))

vacant_none : (r : Handles ℕ) (k h : Handle) → entry_at r h.slot ≡ None → same_handle k h ≡ true → resolved r k ≡ None
vacant_none r k h v s = let f = same_fields k h s in rw (f.0, v) refl

module _ {C : Type 0} where
  pub place_is : (es : List (Entry C)) (r : Handles ℕ) (h : Handle) → Registered es r → resolved r h ≡ entry_place h es
  place_is es r h S = S.registered h ∙ sym (is_first_place (is_entry_at h) es)

  pub place_within : (es : List (Entry C)) (h : Handle) (i : ℕ) → entry_place h es ≡ Some i → i < length es
  place_within es h i e =
      let f : first_place (is_entry_at h) es ≡ Some i = sym (is_first_place (is_entry_at h) es) ∙ e in
      let p = passes_at (is_entry_at h) es i f in
      slice_get_within es i p.0 p.1

  -- the component that has the handle is the one that it names
  pub stands_named : (es : List (Entry C)) (r : Handles ℕ) (h : Handle) (i : ℕ) (e : Entry C) → Registered es r → slice_get es i ≡ Some e → same_handle e.handle h ≡ true → option_and_then (slice_get es) (entry_place h es) ≡ Some e
  stands_named es r h i e S at m = rw (is_first_place (is_entry_at h) es, place_at (is_entry_at h) es i e (S.once h) at m) at

  -- ---- a component is added

  added_place : (es : List (Entry C)) (r t : Handles ℕ) (h : Handle) (e : Entry C) (k : Handle) → Registered es r → Gives r t h (length es) → same_handle e.handle k ≡ same_handle k h
      → (o : Option ℕ) → first_place (is_entry_at k) es ≡ o → cond (same_handle k h) (Some (length es)) o ≡ first_place (is_entry_at k) (es ++ e ∷ [])
  added_place es r t h e k S G m None n = rw (push_None (is_entry_at k) es e n, m) refl
  added_place es r t h e k S G m (Some i) n =
      let q : same_handle k h ≡ false = elim (same_handle k h) as (λ v. same_handle k h ≡ v → v ≡ false)
      [ true ↦ λ s. let a = vacant_none r k h G.vacant s in let b = S.registered k in absurd cc | false ↦ λ s. refl ] refl in
      rw q (sym (push_Some (is_entry_at k) es e i n))

  pub added_sound : (es : List (Entry C)) (r t : Handles ℕ) (h : Handle) (e : Entry C) → Registered es r → Gives r t h (length es) → AllGiven t → e.handle ≡ h → Registered (es ++ e ∷ []) t
  added_sound es r t h e S G A m = record {
    registered = λ k.
        let s : same_handle e.handle k ≡ same_handle k h = rw m (same_symmetric h k) in
        G.resolves k ∙ (rw (S.registered k) (added_place es r t h e k S G s (first_place (is_entry_at k) es) refl));
    once = λ k. once_push (is_entry_at k) es e (S.once k) (λ p.
        let s : same_handle k h ≡ true = same_symmetric k h ∙ subst (λ (x : Handle). same_handle x k ≡ true) m p in
        sym (S.registered k) ∙ vacant_none r k h G.vacant s);
    live = G.live ∙ (ap (λ n. n + 1) S.live ∙ sym (length-append es (e ∷ [])));
    given = A;
  }

  -- ---- a component is changed, but for its handle

  pub set_sound : (es : List (Entry C)) (r : Handles ℕ) (i : ℕ) (e d : Entry C) → Registered es r → slice_get es i ≡ Some e → d.handle ≡ e.handle → Registered (set es i d) r
  set_sound es r i e d S at m = record {
    registered = λ k. S.registered k ∙ sym (place_set (is_entry_at k) es i e d at (ap (λ (x : Handle). same_handle x k) m));
    once = λ k. once_set (is_entry_at k) es i e d at (ap (λ (x : Handle). same_handle x k) m) (S.once k);
    live = S.live ∙ sym (length-set es i d);
    given = S.given;
  }

  pub all_within : (es : List (Entry C)) (h : Handle) (o : Option ℕ) → o ≡ entry_place h es → IfSome o (λ i. i < length es)
  all_within es h None e = tt
  all_within es h (Some i) e = place_within es h i (sym e)

  -- no handle of a vacant slot has a place
  pub vacant_place : (es : List (Entry C)) (r t : Handles ℕ) (h : Handle) → Registered es r → Gives r t h (length es) → (k : Handle) → k.slot ≡ h.slot → entry_place k es ≡ None
  vacant_place es r t h S G k s = sym (place_is es r k S) ∙ rw (s, G.vacant) refl

pub some_within : {X : Type 0} (xs : List X) (k : ℕ) (P : X → Type 0) → IsSomeAnd (slice_get xs k) P → k < length xs
some_within xs k P h = elim (slice_get xs k) as (λ o. slice_get xs k ≡ o → IsSomeAnd o P → k < length xs)
    [ None ↦ λ q n. absurd n | Some y ↦ λ q n. slice_get_within xs k y q ] refl h

pub few_live : (r : Handles ℕ) → is_full r ≡ false → live r < 32
few_live r h = grind (arith, nat_tests)
