-- What a bare world's handles name.
use Rattle.std.proofs.Common.{◌≡◌, ℕ, suc, Bool, true, false, ◌&&◌, nat_eq, cond, List, [], ◌∷◌, slice_get, Option, Some, None, option_map, option_and_then, refl, sym, ◌∙◌, ap, subst, eqb-true, eq-eqb}
use Rattle.std.specs.Prelude.{map, MatchOption, Result, Err}
use Rattle.std.proofs.lemmas.Option.{slice_get-map}
use Rattle.omx_types.specs.declared.handle.Handle.{Handle}
use Rattle.omx_types.specs.declared.error.OmxError.{OmxError}
use Rattle.omx_types.specs.declared.error.OmxError.TheVariants as errors
use Rattle.il_machine.specs.declared.port.Link.{Link}
use Rattle.il_machine.specs.declared.port.Port.{Port}
use Rattle.il_machine.specs.declared.port.PortKey.{PortKey}
use Rattle.il_machine.specs.Flow.{End, OnPort, end_at, end_in, end_of, other_end}
use Rattle.il_machine.specs.Places.{first_place}
use Rattle.il_machine.specs.World.{Component, World, is_at, is_numbered, number_of, place_numbered, place_of, port_of, same_handle}
use Rattle.il_machine.proofs.Places.{is_first_place}
use Rattle.machine_laws.proofs.Finding.{either}
use Rattle.bare_run_laws.specs.Bare.{IsKnown, bare, bare_component, bare_handle}

and_false : (a : Bool) → (a && false) ≡ false
and_false true = refl
and_false false = refl

same_self : (h : Handle) → same_handle h h ≡ true
same_self h =
    let s : nat_eq h.slot h.slot ≡ true = eq-eqb h.slot h.slot refl in
    let g : nat_eq h.generation h.generation ≡ true = eq-eqb h.generation h.generation refl in
    rw (s, g) refl

pub same_at : (h : Handle) (c : Component) → (number_of c ≡ h.generation → c.handle ≡ h) → is_at (bare_handle h) (bare_component c) ≡ is_at h c
same_at h c known = either (nat_eq c.handle.generation h.generation)
    (λ t. t ∙ sym (ap (λ (k : Handle). same_handle k h) (known (eqb-true _ _ t)) ∙ same_self h))
    (λ f. f ∙ sym (ap (λ (b : Bool). nat_eq c.handle.slot h.slot && b) f ∙ and_false (nat_eq c.handle.slot h.slot)))

known_first : (h : Handle) (cs : List Component) → ((k : ℕ) (c : Component) → slice_get cs k ≡ Some c → number_of c ≡ h.generation → c.handle ≡ h)
    → first_place (is_at (bare_handle h)) (map bare_component cs) ≡ first_place (is_at h) cs
known_first h [] known = refl
known_first h (c ∷ cs) known =
    let head = same_at h c (known 0 c refl) in
    let tail = known_first h cs (λ k. known (suc k)) in
    λ j. cond (head j) (Some 0) (option_map suc (tail j))

pub place_same : (h : Handle) (w : World) → IsKnown h w → place_of (bare_handle h) (bare w).components ≡ place_of h w.components
place_same h w known =
    is_first_place (is_at (bare_handle h)) (map bare_component w.components)
    ∙ (known_first h w.components known ∙ sym (is_first_place (is_at h) w.components))

-- ---- a call that a handle names a component

pub there_same : (o : Option Component) (Then Else : Component → Type 0) → ((c : Component) → o ≡ Some c → Then c → Else (bare_component c))
    → MatchOption o ⊥ Then → MatchOption (option_map bare_component o) ⊥ Else
there_same None Then Else goes h = h
there_same (Some c) Then Else goes h = goes c refl h

module _ {T : Type 0} (w v : World) (result : Result T OmxError) (Then Else : ℕ → Component → Type 0) where
  at_place : (o : Option ℕ) → ((i : ℕ) (c : Component) → slice_get w.components i ≡ Some c → Then i c → Else i (bare_component c))
      → MatchOption o ((result ≡ Err errors.InvalidComponent) × (v ≡ w)) (λ i. MatchOption (slice_get w.components i) ⊥ (λ c. Then i c))
      → MatchOption o ((result ≡ Err errors.InvalidComponent) × (bare v ≡ bare w)) (λ i. MatchOption (slice_get (bare w).components i) ⊥ (λ c. Else i c))
  at_place None goes h = (h.0, ap bare h.1)
  at_place (Some i) goes h =
      subst (λ (o : Option Component). MatchOption o ⊥ (λ c. Else i c)) (sym (slice_get-map bare_component w.components i))
      (there_same (slice_get w.components i) (Then i) (Else i) (goes i) h)

pub resolving_same : {T : Type 0} (w v : World) (h : Handle) (result : Result T OmxError) (Then Else : ℕ → Component → Type 0) → IsKnown h w
    → ((i : ℕ) (c : Component) → slice_get w.components i ≡ Some c → Then i c → Else i (bare_component c))
    → MatchOption (place_of h w.components) ((result ≡ Err errors.InvalidComponent) × (v ≡ w)) (λ i. MatchOption (slice_get w.components i) ⊥ (λ c. Then i c))
    → MatchOption (place_of (bare_handle h) (bare w).components) ((result ≡ Err errors.InvalidComponent) × (bare v ≡ bare w)) (λ i. MatchOption (slice_get (bare w).components i) ⊥ (λ c. Else i c))
resolving_same w v h result Then Else known goes r =
    subst (λ (o : Option ℕ). MatchOption o ((result ≡ Err errors.InvalidComponent) × (bare v ≡ bare w)) (λ i. MatchOption (slice_get (bare w).components i) ⊥ (λ c. Else i c)))
    (sym (place_same h w known)) (at_place w v result Then Else (place_of h w.components) goes r)

-- ---- the other end of a tunnel

-- the same end, with the bare component
abbrev pub bare_end : End → End
bare_end e = record { place = e.place; component = bare_component e.component; port = e.port }

end_there : (index i : ℕ) (c : Component) → end_at index i (bare_component c) ≡ option_map bare_end (end_at index i c)
end_there index i c = option_same (port_of c index)
  where
    option_same : (o : Option Port) → option_map (λ p. record { place = i; component = bare_component c; port = p }) o ≡ option_map bare_end (option_map (λ p. record { place = i; component = c; port = p }) o)
    option_same None = refl
    option_same (Some p) = refl

end_inside : (cs : List Component) (index i : ℕ) → end_in (map bare_component cs) index i ≡ option_map bare_end (end_in cs index i)
end_inside cs index i = ap (λ (o : Option Component). option_and_then (end_at index i) o) (slice_get-map bare_component cs i) ∙ go (slice_get cs i)
  where
    go : (o : Option Component) → option_and_then (end_at index i) (option_map bare_component o) ≡ option_map bare_end (option_and_then (end_at index i) o)
    go None = refl
    go (Some c) = end_there index i c

numbered_first : (number : ℕ) (cs : List Component) → first_place (is_numbered number) (map bare_component cs) ≡ first_place (is_numbered number) cs
numbered_first number [] = refl
numbered_first number (c ∷ cs) = ap (λ (o : Option ℕ). cond (is_numbered number c) (Some 0) (option_map suc o)) (numbered_first number cs)

pub numbered_same : (number : ℕ) (cs : List Component) → place_numbered number (map bare_component cs) ≡ place_numbered number cs
numbered_same number cs = is_first_place (is_numbered number) (map bare_component cs) ∙ (numbered_first number cs ∙ sym (is_first_place (is_numbered number) cs))

end_named : (cs : List Component) (key : PortKey) → end_of (map bare_component cs) key ≡ option_map bare_end (end_of cs key)
end_named cs key = ap (λ (o : Option ℕ). option_and_then (end_in (map bare_component cs) key.port) o) (numbered_same key.component cs) ∙ go (place_numbered key.component cs)
  where
    go : (o : Option ℕ) → option_and_then (end_in (map bare_component cs) key.port) o ≡ option_map bare_end (option_and_then (end_in cs key.port) o)
    go None = refl
    go (Some i) = end_inside cs key.port i

pub other_same : (cs : List Component) (p : Port) → other_end (map bare_component cs) p ≡ option_map bare_end (other_end cs p)
other_same cs p = go p.state.link
  where
    go : (o : Option Link) → option_and_then (λ (link : Link). end_of (map bare_component cs) link.peer) o ≡ option_map bare_end (option_and_then (λ (link : Link). end_of cs link.peer) o)
    go None = refl
    go (Some link) = end_named cs link.peer

-- ---- a call that a handle and a number name a port

module _ {T E : Type 0} (refuse : OmxError → E) (w v : World) (result : Result T E) where
  port_there : (o : Option Port) (Then Else : Port → Type 0) → ((p : Port) → Then p → Else p)
      → MatchOption o ((result ≡ Err (refuse errors.BadPortIndex)) × (v ≡ w)) Then → MatchOption o ((result ≡ Err (refuse errors.BadPortIndex)) × (bare v ≡ bare w)) Else
  port_there None Then Else goes h = (h.0, ap bare h.1)
  port_there (Some p) Then Else goes h = goes p h

  place_there : (o : Option ℕ) (Then Else : ℕ → Component → Type 0) → ((i : ℕ) (c : Component) → Then i c → Else i (bare_component c))
      → MatchOption o ((result ≡ Err (refuse errors.InvalidComponent)) × (v ≡ w)) (λ i. MatchOption (slice_get w.components i) ⊥ (λ c. Then i c))
      → MatchOption o ((result ≡ Err (refuse errors.InvalidComponent)) × (bare v ≡ bare w)) (λ i. MatchOption (slice_get (bare w).components i) ⊥ (λ c. Else i c))
  place_there None Then Else goes h = (h.0, ap bare h.1)
  place_there (Some i) Then Else goes h =
      subst (λ (o : Option Component). MatchOption o ⊥ (λ c. Else i c)) (sym (slice_get-map bare_component w.components i))
      (there_same (slice_get w.components i) (Then i) (Else i) (λ c e. goes i c) h)

  pub port_same : (h : Handle) (port : ℕ) (Then Else : ℕ → Component → Port → Type 0) → IsKnown h w → ((i : ℕ) (c : Component) (p : Port) → Then i c p → Else i (bare_component c) p)
      → OnPort refuse w h port result v Then → OnPort refuse (bare w) (bare_handle h) port result (bare v) Else
  port_same h port Then Else known goes r =
      subst (λ (o : Option ℕ). MatchOption o ((result ≡ Err (refuse errors.InvalidComponent)) × (bare v ≡ bare w)) (λ i. MatchOption (slice_get (bare w).components i) ⊥ (λ c. MatchOption (port_of c port) ((result ≡ Err (refuse errors.BadPortIndex)) × (bare v ≡ bare w)) (λ p. Else i c p))))
      (sym (place_same h w known))
      (place_there (place_of h w.components)
      (λ i c. MatchOption (port_of c port) ((result ≡ Err (refuse errors.BadPortIndex)) × (v ≡ w)) (λ p. Then i c p))
      (λ i c. MatchOption (port_of c port) ((result ≡ Err (refuse errors.BadPortIndex)) × (bare v ≡ bare w)) (λ p. Else i c p))
      (λ i c. port_there (port_of c port) (Then i c) (Else i (bare_component c)) (goes i c)) r)
