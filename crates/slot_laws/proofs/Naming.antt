-- What the handles of a world whose handles moved name.
use Rattle.std.proofs.Common.{◌≡◌, ℕ, Bool, true, false, ◌&&◌, nat_eq, List, slice_get, Option, Some, None, option_map, option_and_then, refl, sym, ◌∙◌, ap, subst, eqb-true}
use Rattle.std.specs.Prelude.{map, MatchOption, IsOkAnd, Result, Ok, Err}
use Rattle.std.proofs.lemmas.Option.{slice_get-map}
use Rattle.omx_types.specs.declared.handle.Handle.{Handle}
use Rattle.omx_types.specs.declared.error.OmxError.{OmxError}
use Rattle.omx_types.specs.declared.error.OmxError.TheVariants as errors
use Rattle.il_machine.specs.declared.answer.Acted.{Acted}
use Rattle.il_machine.specs.declared.answer.Acted.TheVariants as acted
use Rattle.il_machine.specs.declared.answer.Why.{Why}
use Rattle.il_machine.specs.declared.port.Link.{Link}
use Rattle.il_machine.specs.declared.port.Port.{Port}
use Rattle.il_machine.specs.declared.port.PortKey.{PortKey}
use Rattle.il_machine.specs.Answers.{Acts, AnswersAs, Looks, Resolving, component_named}
use Rattle.il_machine.specs.Due.{ClosesTo}
use Rattle.il_machine.specs.Flow.{End, OnPort, end_at, end_in, end_of, other_end}
use Rattle.il_machine.specs.World.{Component, World, component_numbered, is_at, is_numbered, place_numbered, place_of, port_of, same_handle}
use Rattle.machine_laws.proofs.Finding.{either}
use Rattle.slot_laws.specs.Seating.{Seating, mapped, moved, moved_acted, moved_component, moved_handle, moved_port, moved_why}
use Rattle.slot_laws.proofs.Lists.{position_moved}
use Rattle.slot_laws.proofs.Ports.{port_moved}
use Rattle.slot_laws.proofs.Closings.{moved_closes}

and_false : (a : Bool) → (a && false) ≡ false
and_false true = refl
and_false false = refl

-- ---- a result with what it has changed

-- an error stays, and what is there is changed
pub record Carries {T U E : Type 0} (g : T → U) (r : Result T E) (s : Result U E) : Type 0 where
  pub err : (e : E) → r ≡ Err e → s ≡ Err e
  pub ok : (x : T) → r ≡ Ok x → s ≡ Ok (g x)

pub stays : {T E : Type 0} (r : Result T E) → Carries (λ (x : T). x) r r
stays r = record { err = λ e is. is; ok = λ x is. is }

pub by_map : {T U E : Type 0} (g : T → U) (r : Result T E) → Carries g r (mapped g r)
by_map g r = record { err = λ e is. ap (mapped g) is; ok = λ x is. ap (mapped g) is }

module _ (f : Seating) where
  -- ---- a handle names the same component

  pub same_moved : (a b : Handle) → same_handle (moved_handle f a) (moved_handle f b) ≡ same_handle a b
  same_moved a b = either (nat_eq a.generation b.generation)
      (λ t.
      let g : a.generation ≡ b.generation = eqb-true _ _ t in
      let s : nat_eq (f.slot a.generation a.slot) (f.slot b.generation b.slot) ≡ nat_eq a.slot b.slot =
      ap (λ (n : ℕ). nat_eq (f.slot n a.slot) (f.slot b.generation b.slot)) g ∙ f.apart b.generation a.slot b.slot in
      ap (λ (x : Bool). x && nat_eq a.generation b.generation) s)
      (λ e.
      ap (λ (x : Bool). nat_eq (f.slot a.generation a.slot) (f.slot b.generation b.slot) && x) e
      ∙ (and_false _ ∙ sym (ap (λ (x : Bool). nat_eq a.slot b.slot && x) e ∙ and_false (nat_eq a.slot b.slot))))

  pub place_moved : (h : Handle) (cs : List Component) → place_of (moved_handle f h) (map (moved_component f) cs) ≡ place_of h cs
  place_moved h cs = position_moved (moved_component f) (is_at (moved_handle f h)) (is_at h) cs (λ c. same_moved c.handle h)

  pub number_moved : (number : ℕ) (cs : List Component) → place_numbered number (map (moved_component f) cs) ≡ place_numbered number cs
  number_moved number cs = position_moved (moved_component f) (is_numbered number) (is_numbered number) cs (λ c. refl)

  there : (cs : List Component) (o : Option ℕ) → option_and_then (slice_get (map (moved_component f) cs)) o ≡ option_map (moved_component f) (option_and_then (slice_get cs) o)
  there cs None = refl
  there cs (Some i) = slice_get-map (moved_component f) cs i

  pub named_moved : (h : Handle) (cs : List Component) → component_named (moved_handle f h) (map (moved_component f) cs) ≡ option_map (moved_component f) (component_named h cs)
  named_moved h cs = ap (λ (o : Option ℕ). option_and_then (slice_get (map (moved_component f) cs)) o) (place_moved h cs) ∙ there cs (place_of h cs)

  pub numbered_moved : (number : ℕ) (w : World) → component_numbered number (moved f w) ≡ option_map (moved_component f) (component_numbered number w)
  numbered_moved number w = ap (λ (o : Option ℕ). option_and_then (slice_get (moved f w).components) o) (number_moved number w.components) ∙ there w.components (place_numbered number w.components)

  -- ---- the other end of a tunnel

  abbrev pub moved_end : End → End
  moved_end e = record { place = e.place; component = moved_component f e.component; port = moved_port f e.port }

  end_there : (index i : ℕ) (c : Component) → end_at index i (moved_component f c) ≡ option_map moved_end (end_at index i c)
  end_there index i c =
      ap (λ (o : Option Port). option_map (λ p. record { place = i; component = moved_component f c; port = p }) o) (port_moved f c index) ∙ go (port_of c index)
    where
      go : (o : Option Port) → option_map (λ p. record { place = i; component = moved_component f c; port = p }) (option_map (moved_port f) o)
          ≡ option_map moved_end (option_map (λ p. record { place = i; component = c; port = p }) o)
      go None = refl
      go (Some p) = refl

  end_inside : (cs : List Component) (index i : ℕ) → end_in (map (moved_component f) cs) index i ≡ option_map moved_end (end_in cs index i)
  end_inside cs index i = ap (λ (o : Option Component). option_and_then (end_at index i) o) (slice_get-map (moved_component f) cs i) ∙ go (slice_get cs i)
    where
      go : (o : Option Component) → option_and_then (end_at index i) (option_map (moved_component f) o) ≡ option_map moved_end (option_and_then (end_at index i) o)
      go None = refl
      go (Some c) = end_there index i c

  end_named : (cs : List Component) (key : PortKey) → end_of (map (moved_component f) cs) key ≡ option_map moved_end (end_of cs key)
  end_named cs key = ap (λ (o : Option ℕ). option_and_then (end_in (map (moved_component f) cs) key.port) o) (number_moved key.component cs) ∙ go (place_numbered key.component cs)
    where
      go : (o : Option ℕ) → option_and_then (end_in (map (moved_component f) cs) key.port) o ≡ option_map moved_end (option_and_then (end_in cs key.port) o)
      go None = refl
      go (Some i) = end_inside cs key.port i

  pub other_moved : (cs : List Component) (p : Port) → other_end (map (moved_component f) cs) (moved_port f p) ≡ option_map moved_end (other_end cs p)
  other_moved cs p = go p.state.link
    where
      go : (o : Option Link) → option_and_then (λ (link : Link). end_of (map (moved_component f) cs) link.peer) o ≡ option_map moved_end (option_and_then (λ (link : Link). end_of cs link.peer) o)
      go None = refl
      go (Some link) = end_named cs link.peer

  -- ---- the forms of an answer

  pub at_moved : (o : Option Component) (Then Else : Component → Type 0) → ((c : Component) → o ≡ Some c → Then c → Else (moved_component f c))
      → MatchOption o ⊥ Then → MatchOption (option_map (moved_component f) o) ⊥ Else
  at_moved None Then Else goes h = h
  at_moved (Some c) Then Else goes h = goes c refl h

  pub place_there : (o : Option ℕ) (w : World) (Then Else : ℕ → Component → Type 0) (No Not : Type 0) → (No → Not) → ((i : ℕ) (c : Component) → slice_get w.components i ≡ Some c → Then i c → Else i (moved_component f c))
      → MatchOption o No (λ i. MatchOption (slice_get w.components i) ⊥ (λ c. Then i c))
      → MatchOption o Not (λ i. MatchOption (slice_get (moved f w).components i) ⊥ (λ c. Else i c))
  place_there None w Then Else No Not not_ goes h = not_ h
  place_there (Some i) w Then Else No Not not_ goes h =
      subst (λ (o : Option Component). MatchOption o ⊥ (λ c. Else i c)) (sym (slice_get-map (moved_component f) w.components i))
      (at_moved (slice_get w.components i) (Then i) (Else i) (goes i) h)

  module _ {T U E : Type 0} (refuse : OmxError → E) (g : T → U) (w v : World) (r : Result T E) (s : Result U E) (carries : Carries g r s) where
    pub resolving_moved : (h : Handle) (Then Else : ℕ → Component → Type 0)
        → ((i : ℕ) (c : Component) → Then i c → Else i (moved_component f c))
        → Resolving refuse w h r v Then → Resolving refuse (moved f w) (moved_handle f h) s (moved f v) Else
    resolving_moved h Then Else goes R =
        subst (λ (o : Option ℕ). MatchOption o ((s ≡ Err (refuse errors.InvalidComponent)) × (moved f v ≡ moved f w)) (λ i. MatchOption (slice_get (moved f w).components i) ⊥ (λ c. Else i c)))
        (sym (place_moved h w.components))
        (place_there (place_of h w.components) w Then Else _ _ (λ no. (carries.err (refuse errors.InvalidComponent) no.0, ap (moved f) no.1)) (λ i c e. goes i c) R)

    port_there : (o : Option Port) (Then Else : Port → Type 0) → ((p : Port) → Then p → Else (moved_port f p))
        → MatchOption o ((r ≡ Err (refuse errors.BadPortIndex)) × (v ≡ w)) Then
        → MatchOption (option_map (moved_port f) o) ((s ≡ Err (refuse errors.BadPortIndex)) × (moved f v ≡ moved f w)) Else
    port_there None Then Else goes h = (carries.err (refuse errors.BadPortIndex) h.0, ap (moved f) h.1)
    port_there (Some p) Then Else goes h = goes p h

    pub on_port_moved : (h : Handle) (port : ℕ) (Then Else : ℕ → Component → Port → Type 0)
        → ((i : ℕ) (c : Component) (p : Port) → Then i c p → Else i (moved_component f c) (moved_port f p))
        → OnPort refuse w h port r v Then → OnPort refuse (moved f w) (moved_handle f h) port s (moved f v) Else
    on_port_moved h port Then Else goes R = resolving_moved h
        (λ i c. MatchOption (port_of c port) ((r ≡ Err (refuse errors.BadPortIndex)) × (v ≡ w)) (λ p. Then i c p))
        (λ i c. MatchOption (port_of c port) ((s ≡ Err (refuse errors.BadPortIndex)) × (moved f v ≡ moved f w)) (λ p. Else i c p))
        (λ i c h. subst (λ (o : Option Port). MatchOption o ((s ≡ Err (refuse errors.BadPortIndex)) × (moved f v ≡ moved f w)) (λ p. Else i (moved_component f c) p))
        (sym (port_moved f c port)) (port_there (port_of c port) (Then i c) (Else i (moved_component f c)) (goes i c) h)) R

    accepted : (x : Result T E) (Then : T → Type 0) (Else : U → Type 0) → r ≡ x → ((y : T) → Then y → Else (g y)) → IsOkAnd x Then → IsOkAnd s Else
    accepted (Ok y) Then Else is goes h = subst (λ (z : Result U E). IsOkAnd z Else) (sym (carries.ok y is)) (goes y h)
    accepted (Err e) Then Else is goes h = absurd h

    answered : (o : Option OmxError) (Then : T → Type 0) (Else : U → Type 0) → ((x : T) → Then x → Else (g x)) → AnswersAs refuse o r w v Then → AnswersAs refuse o s (moved f w) (moved f v) Else
    answered (Some e) Then Else goes h = (carries.err (refuse e) h.0, ap (moved f) h.1)
    answered None Then Else goes h = accepted r Then Else refl goes h

    pub answers_moved : (p o : Option OmxError) (Then : T → Type 0) (Else : U → Type 0) → p ≡ o → ((x : T) → Then x → Else (g x))
        → AnswersAs refuse o r w v Then → AnswersAs refuse p s (moved f w) (moved f v) Else
    answers_moved p o Then Else same goes h = subst (λ (q : Option OmxError). AnswersAs refuse q s (moved f w) (moved f v) Else) (sym same) (answered o Then Else goes h)

  -- the close-out follows a world, or the same one
  pub closes_from : (then after v : World) → then ≡ moved f after → ClosesTo after v → ClosesTo then (moved f v)
  closes_from then after v is C = subst (λ (u : World). ClosesTo u (moved f v)) (sym is) (moved_closes f after v C)

  module _ {E : Type 0} (w after then v : World) (r s : Result Acted E) (carries : Carries (moved_acted f) r s) where
    acted_so : (o : Option Why) → then ≡ moved f after → Acts o r w after v → Acts (option_map (moved_why f) o) s (moved f w) then (moved f v)
    acted_so (Some why) is h = (carries.ok (acted.Idle why) h.0, ap (moved f) h.1)
    acted_so None is h = (carries.ok acted.Did h.0, closes_from then after v is h.1)

    pub acts_moved : (p o : Option Why) → p ≡ option_map (moved_why f) o → then ≡ moved f after → Acts o r w after v → Acts p s (moved f w) then (moved f v)
    acts_moved p o same is h = subst (λ (q : Option Why). Acts q s (moved f w) then (moved f v)) (sym same) (acted_so o is h)

  pub looks_moved : {T : Type 0} (x y result : Result T OmxError) (w v : World) → x ≡ y → Looks y result w v → Looks x result (moved f w) (moved f v)
  looks_moved x y result w v same h = subst (λ (z : Result _ OmxError). Looks z result (moved f w) (moved f v)) (sym same) (go y h)
    where
      go : (z : Result _ OmxError) → Looks z result w v → Looks z result (moved f w) (moved f v)
      go (Ok z) h = (h.0, moved_closes f w v h.1)
      go (Err e) h = (h.0, ap (moved f) h.1)
