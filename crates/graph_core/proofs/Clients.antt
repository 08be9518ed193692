-- Whose client object is where, as components are added, taken out and changed.
use Rattle.std.proofs.Common.{◌≡◌, ◌≢◌, inl, inr, ℕ, suc, ◌+◌, true, false, List, [], ◌∷◌, ◌++◌, set, remove, slice_get, Option, Some, None, option_map, option_and_then, nat_lt, refl, sym, ◌∙◌, ap, arith, if◌then◌else◌}
use Rattle.std.proofs.lemmas.Bool.Decides.{nat_tests, eqb_tells}
use Rattle.omx_types.specs.declared.handle.Handle.{Handle}
use Rattle.il_machine.specs.World.{same_handle}
use Rattle.il_machine.specs.Places.{first_place, AtMostOne, shift}
use Rattle.il_machine.proofs.Places.{is_first_place, push_Some, push_None, place_set, place_removed, passes_at}
use Rattle.stock_laws.proofs.Lists.{get_set_same, get_set_other, get_before_last, get_at_last, get_removed}
use Rattle.il_component.specs.Entries.{Entry}
use Rattle.graph_core.specs.Entries.{entry_place, is_entry_at}
use Rattle.graph_core.proofs.Registering.{same_symmetric}

moved : (i j : ℕ) → (if nat_lt j i then j else suc j) ≡ shift i j
moved i j = let e : j + 1 ≡ suc j = omega arith in grind (arith, nat_tests)

none_shifted : (i : ℕ) (o : Option ℕ) → option_map (shift i) o ≡ None → o ≡ None
none_shifted i None h = refl
none_shifted i (Some j) h = absurd cc

module _ {C : Type 0} where
  abbrev pub client_in : Option (Entry C) → Option (Option C)
  client_in o = option_map (λ e. e.queues.client) o

  abbrev pub client_at : List (Entry C) → Option ℕ → Option (Option C)
  client_at es o = client_in (option_and_then (slice_get es) o)

  abbrev pub in_now : Option (Option C) → Option C
  in_now o = option_and_then (λ client. client) o

  -- ---- one is changed

  place_kept : (es : List (Entry C)) (i : ℕ) (e d : Entry C) → slice_get es i ≡ Some e → d.handle ≡ e.handle → (k : Handle) → entry_place k (set es i d) ≡ entry_place k es
  place_kept es i e d at m k = is_first_place (is_entry_at k) (set es i d) ∙ (place_set (is_entry_at k) es i e d at (ap (λ (x : Handle). same_handle x k) m) ∙ sym (is_first_place (is_entry_at k) es))

  at_set : (es : List (Entry C)) (i : ℕ) (e d : Entry C) → slice_get es i ≡ Some e → d.queues.client ≡ e.queues.client → (o : Option ℕ) → client_at (set es i d) o ≡ client_at es o
  at_set es i e d at q None = refl
  at_set es i e d at q (Some j) =
      let same : j ≡ i → client_in (slice_get (set es i d) j) ≡ client_in (slice_get es j) = λ s. rw (s, get_set_same es i e d at, at) (ap (λ (x : Option C). Some x) q) in
      let other : j ≢ i → client_in (slice_get (set es i d) j) ≡ client_in (slice_get es j) = λ s. ap client_in (get_set_other es i j d s) in
      elim (eqb_tells j i) [ inl s ↦ same s.1 | inr s ↦ other s.1 ]

  pub clients_set : (es : List (Entry C)) (i : ℕ) (e d : Entry C) → slice_get es i ≡ Some e → d.handle ≡ e.handle → d.queues.client ≡ e.queues.client → (k : Handle) → client_at (set es i d) (entry_place k (set es i d)) ≡ client_at es (entry_place k es)
  clients_set es i e d at m q k = rw (place_kept es i e d at m k) (at_set es i e d at q (entry_place k es))

  -- ---- one gets another client object, or its own goes out

  at_other : (es : List (Entry C)) (i : ℕ) (d : Entry C) (o : Option ℕ) → (Some i ≡ o → ⊥) → client_at (set es i d) o ≡ client_at es o
  at_other es i d None n = refl
  at_other es i d (Some j) n = ap client_in (get_set_other es i j d (λ q. n (ap Some (sym q))))

  pub others_set : (es : List (Entry C)) (i : ℕ) (e d : Entry C) → slice_get es i ≡ Some e → d.handle ≡ e.handle → (k : Handle) → same_handle k e.handle ≡ false → client_at (set es i d) (entry_place k (set es i d)) ≡ client_at es (entry_place k es)
  others_set es i e d at m k f =
      let apart : Some i ≡ entry_place k es → ⊥ = λ q.
      let x = passes_at (is_entry_at k) es i (sym (is_first_place (is_entry_at k) es) ∙ sym q) in
      let z : Some x.0 ≡ Some e = sym x.1 ∙ at in
      let y : x.0 ≡ e = cc in
      let t : same_handle k e.handle ≡ true = sym (same_symmetric e.handle k) ∙ (ap (λ (v : Entry C). is_entry_at k v) (sym y) ∙ x.2) in
      absurd cc in
      rw (place_kept es i e d at m k) (at_other es i d (entry_place k es) apart)

  pub client_there : (es : List (Entry C)) (i : ℕ) (e : Entry C) (h : Handle) → entry_place h es ≡ Some i → slice_get es i ≡ Some e → client_at es (entry_place h es) ≡ Some e.queues.client
  client_there es i e h p at = rw (p, at) refl

  pub client_set : (es : List (Entry C)) (i : ℕ) (e d : Entry C) (h : Handle) → entry_place h es ≡ Some i → slice_get es i ≡ Some e → d.handle ≡ e.handle → client_at (set es i d) (entry_place h (set es i d)) ≡ Some d.queues.client
  client_set es i e d h p at m = client_there (set es i d) i d h (place_kept es i e d at m h ∙ p) (get_set_same es i e d at)

  -- ---- one is added

  added_at : (es : List (Entry C)) (e : Entry C) (k : Handle) → is_entry_at k e ≡ false → (o : Option ℕ) → first_place (is_entry_at k) es ≡ o → client_at (es ++ e ∷ []) (first_place (is_entry_at k) (es ++ e ∷ [])) ≡ client_at es o
  added_at es e k f None n = rw (push_None (is_entry_at k) es e n, f) refl
  added_at es e k f (Some i) n =
      let s = passes_at (is_entry_at k) es i n in
      rw (push_Some (is_entry_at k) es e i n, get_before_last es i e s.0 s.1, s.1) refl

  pub clients_added : (es : List (Entry C)) (e : Entry C) (h k : Handle) → e.handle ≡ h → same_handle k h ≡ false → client_at (es ++ e ∷ []) (entry_place k (es ++ e ∷ [])) ≡ client_at es (entry_place k es)
  clients_added es e h k m d =
      let f : is_entry_at k e ≡ false = same_symmetric e.handle k ∙ (ap (λ (x : Handle). same_handle k x) m ∙ d) in
      rw (is_first_place (is_entry_at k) (es ++ e ∷ []), is_first_place (is_entry_at k) es) (added_at es e k f (first_place (is_entry_at k) es) refl)

  pub client_added : (es : List (Entry C)) (e : Entry C) (h : Handle) → e.handle ≡ h → entry_place h es ≡ None → client_at (es ++ e ∷ []) (entry_place h (es ++ e ∷ [])) ≡ Some e.queues.client
  client_added es e h m v =
      let n : first_place (is_entry_at h) es ≡ None = sym (is_first_place (is_entry_at h) es) ∙ v in
      let p : is_entry_at h e ≡ true = rw m (grind (arith, nat_tests)) in
      rw (is_first_place (is_entry_at h) (es ++ e ∷ []), push_None (is_entry_at h) es e n, p, get_at_last es e) refl

  -- ---- one is taken out

  at_removed : (es : List (Entry C)) (i : ℕ) (o : Option ℕ) → client_at (remove es i) o ≡ client_at es (option_map (shift i) o)
  at_removed es i None = refl
  at_removed es i (Some j) = ap client_in (get_removed es i j ∙ ap (slice_get es) (moved i j))

  pub clients_removed : (es : List (Entry C)) (i : ℕ) (e : Entry C) (k : Handle) → AtMostOne (is_entry_at k) es → slice_get es i ≡ Some e → same_handle k e.handle ≡ false → client_at (remove es i) (entry_place k (remove es i)) ≡ client_at es (entry_place k es)
  clients_removed es i e k once at d =
      let f : is_entry_at k e ≡ false = same_symmetric e.handle k ∙ d in
      let r : option_map (shift i) (first_place (is_entry_at k) (remove es i)) ≡ first_place (is_entry_at k) es = place_removed (is_entry_at k) es i e once at ∙ rw f refl in
      rw (is_first_place (is_entry_at k) (remove es i), is_first_place (is_entry_at k) es) (at_removed es i (first_place (is_entry_at k) (remove es i)) ∙ ap (client_at es) r)

  pub client_removed : (es : List (Entry C)) (i : ℕ) (e : Entry C) → AtMostOne (is_entry_at e.handle) es → slice_get es i ≡ Some e → client_at (remove es i) (entry_place e.handle (remove es i)) ≡ None
  client_removed es i e once at =
      let p : is_entry_at e.handle e ≡ true = grind (arith, nat_tests) in
      let r : option_map (shift i) (first_place (is_entry_at e.handle) (remove es i)) ≡ None = place_removed (is_entry_at e.handle) es i e once at ∙ rw p refl in
      rw (is_first_place (is_entry_at e.handle) (remove es i), none_shifted i (first_place (is_entry_at e.handle) (remove es i)) r) refl
