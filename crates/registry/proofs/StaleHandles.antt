-- A stale handle stays stale.
use Rattle.std.proofs.Common.{◌≡◌, ℕ, zero, suc, ◌<◌, inl, inr, Bool, true, false, ◌&&◌, nat_eq, Option, Some, None, IsSome, cond, subst, refl, sym, ◌∙◌, arith, rules}
use Rattle.std.proofs.lemmas.Bool.Decides.{nat_tests}
use Rattle.omx_types.specs.declared.handle.Handle.{Handle}
use Rattle.il_machine.specs.World.{same_handle}
use Rattle.registry.specs.Handles.{Handles, resolved, Gives, Removes, Sets}
use Rattle.registry.specs.Stale.{Changes, ChangesTimes, IsStale}

and_false : (b : Bool) → (b && false) ≡ false
and_false true = refl
and_false false = refl

same_is : (k h : Handle) → same_handle k h ≡ true → (k.slot ≡ h.slot) × (k.generation ≡ h.generation)
same_is k h e = (grind (arith, nat_tests), grind (arith, nat_tests))

other_generation : (k h : Handle) (g : ℕ) → h.generation ≡ g → k.generation < g → same_handle k h ≡ false
other_generation k h g e l = let d : nat_eq k.generation h.generation ≡ false = grind (arith, nat_tests) in rw d (and_false (nat_eq k.slot h.slot))

module _ {T : Type 0} where
  nothing_is_some : (o : Option T) → o ≡ None → IsSome o → ⊥
  nothing_is_some None e there = search rules
  nothing_is_some (Some x) e there = cc

  none_or : (b : Bool) (o : Option T) → o ≡ None → cond b None o ≡ None
  none_or true o e = refl
  none_or false o e = e

  stays_under_gives : (old new : Handles T) (k h : Handle) (value : T) → Gives old new h value → IsStale old k → IsStale new k
  stays_under_gives old new k h value G s = record {
    given = let e = G.given in let l = s.given in omega arith;
    gone = let d = other_generation k h old.given G.generation s.given in G.resolves k ∙ rw d s.gone;
  }

  stays_under_removes : (old new : Handles T) (k h : Handle) → Removes old new h → IsStale old k → IsStale new k
  stays_under_removes old new k h R s = record {
    given = let e = R.given in let l = s.given in omega arith;
    gone = R.resolves k ∙ none_or (same_handle k h) (resolved old k) s.gone;
  }

  other_is_none : (old : Handles T) (k h : Handle) (value : T) → IsSome (resolved old h) → resolved old k ≡ None → cond (same_handle k h) (Some value) (resolved old k) ≡ None
  other_is_none old k h value there gone = elim (same_handle k h) as (λ v. same_handle k h ≡ v → cond v (Some value) (resolved old k) ≡ None) [
    | true ↦ λ e.
        let same = same_is k h e in
        let f : resolved old k ≡ resolved old h = rw (same.0, same.1) refl in
        absurd (nothing_is_some (resolved old h) (sym f ∙ gone) there)
    | false ↦ λ e. gone
  ] refl

  stays_under_sets : (old new : Handles T) (k h : Handle) (value : T) → IsSome (resolved old h) → Sets old new h value → IsStale old k → IsStale new k
  stays_under_sets old new k h value there S s = record {
    given = let e = S.given in let l = s.given in omega arith;
    gone = S.resolves k ∙ other_is_none old k h value there s.gone;
  }

  stays : (old new : Handles T) (k : Handle) → Changes old new → IsStale old k → IsStale new k
  stays old new k (inl (h, value, G)) s = stays_under_gives old new k h value G s
  stays old new k (inr (inl (h, R))) s = stays_under_removes old new k h R s
  stays old new k (inr (inr (h, value, there, S))) s = stays_under_sets old new k h value there S s

  pub stale_stays : (n : ℕ) (old new : Handles T) (k : Handle) → ChangesTimes n old new → IsStale old k → IsStale new k
  stale_stays zero old new k e s = subst (λ (r : Handles T). IsStale r k) (sym e) s
  stale_stays (suc n) old new k (mid, before, last) s = stays mid new k last (stale_stays n old mid k before s)
