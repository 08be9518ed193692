-- A client object goes out with a note and comes back: then each is in again.
use Rattle.std.proofs.Common.{◌≡◌, inl, inr, ℕ, Bool, true, false, List, set, slice_get, Some, All, refl, sym, ◌∙◌, subst, eqb-true}
use Rattle.std.specs.Prelude.{nat_eq}
use Rattle.std.proofs.lemmas.Bool.{and_parts}
use Rattle.omx_types.specs.declared.handle.Handle.{Handle}
use Rattle.il_machine.specs.World.{Component, World, place_of, is_at, same_handle, with_component}
use Rattle.il_machine.specs.Notes.{Taken, EndNote, first_taken, back_in}
use Rattle.il_machine.specs.Due.{ClosesTo}
use Rattle.il_machine.specs.Sound.{Sound}
use Rattle.il_machine.proofs.Places.{is_first_place, passes_at}
use Rattle.machine_laws.proofs.Every.{at_place, from_places, at_set}
use Rattle.machine_laws.proofs.Finding.{either}
use Rattle.machine_laws.proofs.Keys.{there_is}
use Rattle.machine_laws.proofs.Lookups.{same_place}
use Rattle.history_laws.proofs.Calm.{Fit, lasting}
use Rattle.history_laws.proofs.Cores.{core, each_set, closes_each}
use Rattle.trace_run.specs.declared.names.NamedComponent.{NamedComponent}
use Rattle.trace_run.specs.Standing.{IsNamed, IsSeated}
use Rattle.trace_run.proofs.Ends.{Nobody, seated_closes}
use Rattle.trace_run.proofs.Taken.{WasTaken}

-- the component that the handle names
record IsNamedAt (h : Handle) (cs : List Component) (i : ℕ) : Type 0 where
  component : Component
  there : slice_get cs i ≡ Some component
  is : same_handle component.handle h ≡ true

named_at : (h : Handle) (cs : List Component) (i : ℕ) → place_of h cs ≡ Some i → IsNamedAt h cs i
named_at h cs i p = let x = passes_at (is_at h) cs i (sym (is_first_place (is_at h) cs) ∙ p) in record { component = x.0; there = x.1; is = x.2 }

same_generation : (a h : Handle) → same_handle a h ≡ true → a.generation ≡ h.generation
same_generation a h s = let p = and_parts (nat_eq a.slot h.slot) (nat_eq a.generation h.generation) s in eqb-true _ _ p.1

module _ (components : List NamedComponent) (w : World) (h : Handle) (taken : Taken) (v u : World) (S : Sound v) (T : WasTaken w h taken v) where
  -- only the client object of that component is out
  abbrev IsOnly : Handle → Bool → Type 0
  IsOnly k out = (out ≡ true → same_handle k h ≡ true) × IsNamed components k

  middle : All (IsSeated components) w.components → All (λ (c : Component). Fit IsOnly Nobody (core c)) v.components
  middle A =
      let F : Component → Type 0 = λ (c : Component). Fit IsOnly Nobody (core c) in
      let N = named_at h w.components T.place T.named in
      let s : Some N.component ≡ Some T.component = sym N.there ∙ T.there in
      let same : N.component ≡ T.component = cc in
      let is : same_handle (T.component).handle h ≡ true = subst (λ (c : Component). same_handle c.handle h ≡ true) same N.is in
      let before : All F w.components = from_places F w.components (λ i c e.
      let k = at_place (IsSeated components) w.components i c A e in
      (((λ out. let x : false ≡ true = sym k.0.0 ∙ out in absurd cc), k.0.1), k.1, λ d. absurd d)) in
      let k = at_place F w.components T.place T.component before T.there in
      let set_so : All F (T.after).components = subst (All F) (sym T.components)
      (each_set (Fit IsOnly Nobody) w.components T.place (first_taken T.component) before (((λ out. is), k.0.1), k.1, k.2)) in
      closes_each (Fit IsOnly Nobody) (lasting IsOnly Nobody (λ x out q. ((λ e. absurd cc), q.1))) T.after v T.closes set_so

  back : (i : ℕ) (c : Component) → place_of h v.components ≡ Some i → slice_get v.components i ≡ Some c → ClosesTo (with_component i (back_in c) v) u → All (λ (c : Component). Fit IsOnly Nobody (core c)) v.components → All (IsSeated components) u.components
  back i c p at C A =
      let F : Component → Type 0 = λ (c : Component). Fit IsOnly Nobody (core c) in
      let N = named_at h v.components i p in
      seated_closes components (with_component i (back_in c) v) u C (from_places (IsSeated components) (set v.components i (back_in c)) (λ j d e. elim (at_set v.components i j (back_in c) d e) [
        | inl x ↦ let k = at_place F v.components i c A at in subst (IsSeated components) (sym x.1) ((refl, k.0.1), k.1)
        | inr x ↦
            let k = at_place F v.components j d A x.1 in
            let out : d.client_out ≡ false = either d.client_out
            (λ t.
            let a = same_generation d.handle h (k.0.0 t) in
            let b = same_generation (N.component).handle h N.is in
            absurd (x.0 (same_place 0 v.numbered j i v.components d N.component S.rising x.1 N.there (a ∙ sym b))))
            (λ f. f) in
            ((out, k.0.1), k.1)
      ]))

  pub seated_taken : EndNote v h u → All (IsSeated components) w.components → All (IsSeated components) u.components
  seated_taken e A =
      let i = there_is (place_of h v.components) _ e in
      let c = there_is (slice_get v.components i.0) _ i.2 in
      back i.0 c.0 i.1 c.1 c.2 (middle A)
