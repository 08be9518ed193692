-- Numbers that rise by place differ, so a component that has the number is the one of the number.
use Rattle.std.proofs.Common.{◌≡◌, ℕ, suc, ◌<◌, Bool, true, false, nat_eq, List, [], ◌∷◌, length, position, slice_get, Option, Some, None, MatchOption, refl, ◌∙◌, ap, arith, subst}
use Rattle.std.proofs.lemmas.Bool.Decides.{nat_tests}
use Rattle.std.proofs.lemmas.Option.{slice_get_within}
use Rattle.il_machine.specs.declared.answer.Progress.{Progress}
use Rattle.il_machine.specs.Look.{Look}
use Rattle.il_machine.specs.Places.{first_place}
use Rattle.il_machine.specs.Sound.{AreRising}
use Rattle.il_machine.specs.World.{Component, is_numbered, number_of}
use Rattle.il_machine.proofs.Places.{is_first_place, place_at}
use Rattle.il_component.specs.Entries.{Entry, component_of}
use Rattle.graph_core.specs.Entries.{Entries, components_of, kept}
use Rattle.graph_core.specs.OtherEnd.{NumbersDiffer}
use Rattle.graph_core.specs.Standing.{SoundWorld}

module _ {C : Type 0} where
  abbrev of_number : ℕ → Entry C → Bool
  of_number number e = is_numbered number (component_of e)

  below_all : (number from next : ℕ) (es : List (Entry C)) → AreRising from (components_of es) next → number < from → first_place (of_number number) es ≡ None
  below_all number from next [] R l = refl
  below_all number from next (e ∷ es) R l =
      let i = below_all number (suc (number_of (component_of e))) next es R.1 (omega (arith, R.0)) in
      let d : is_numbered number (component_of e) ≡ false = grind (arith, nat_tests, R.0) in
      rw (d, i) refl

  pub differ_from : (from next : ℕ) (es : List (Entry C)) → AreRising from (components_of es) next → NumbersDiffer es
  differ_from from next [] R = λ n. tt
  differ_from from next (e ∷ es) R = λ n. ((λ t. below_all n (suc (number_of (component_of e))) next es R.1 (grind (arith, nat_tests))), differ_from (suc (number_of (component_of e))) next es R.1 n)

  pub graph_differs : (progress : C → Progress) (g : Entries C) → SoundWorld (kept progress g) → NumbersDiffer g.entries
  graph_differs progress g W =
      differ_from 0 W.world.numbered g.entries (subst (λ (cs : List Component). AreRising 0 cs W.world.numbered) (ap (λ (l : Look). l.components) W.stands.looks) W.sound.rising)

  -- ---- what was found by halves

  halved_at : (number k : ℕ) (es : List (Entry C)) (o : Option (Entry C)) → NumbersDiffer es → slice_get es k ≡ o → MatchOption o ⊥ (λ e. nat_eq e.handle.generation number ≡ true) → first_place (of_number number) es ≡ Some k
  halved_at number k es None D at h = absurd h
  halved_at number k es (Some e) D at h = place_at (of_number number) es k e (D number) at h

  pub halved : (number k : ℕ) (es : List (Entry C)) → NumbersDiffer es → MatchOption (slice_get es k) ⊥ (λ e. nat_eq e.handle.generation number ≡ true) → position (λ e. nat_eq e.handle.generation number) es ≡ Some k
  halved number k es D h = is_first_place (of_number number) es ∙ halved_at number k es (slice_get es k) D refl h

  within_at : (number k : ℕ) (es : List (Entry C)) (o : Option (Entry C)) → slice_get es k ≡ o → MatchOption o ⊥ (λ e. nat_eq e.handle.generation number ≡ true) → k < length es
  within_at number k es None at h = absurd h
  within_at number k es (Some e) at h = slice_get_within es k e at

  pub within_halved : (number k : ℕ) (es : List (Entry C)) → MatchOption (slice_get es k) ⊥ (λ e. nat_eq e.handle.generation number ≡ true) → k < length es
  within_halved number k es h = within_at number k es (slice_get es k) refl h
