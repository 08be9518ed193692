-- One component of what is kept is replaced, in each world.
use Rattle.std.proofs.Common.{◌≡◌, ◌≢◌, ℕ, List, Option, Some, slice_get, slice_set, filter, refl, sym, ◌∙◌, ap, inl, inr}
use Rattle.std.proofs.lemmas.Bool.Decides.{eqb_tells}
use Rattle.il_machine.specs.declared.answer.Progress.{Progress}
use Rattle.il_machine.specs.World.{Component, World, number_of, with_component}
use Rattle.il_machine.specs.Look.{Look}
use Rattle.il_machine.specs.Components.{progress_of, progress_after, is_given_to, no_progress}
use Rattle.il_machine.specs.Whole.{Kept, HasProgress}
use Rattle.stock_laws.specs.Bare.{StepsBare}
use Rattle.stock_laws.proofs.Lists.{get_set_same, get_set_other}
use Rattle.stock_laws.specs.Parts.{KeepsPart}
use Rattle.stock_laws.proofs.Parts.{streams_set}

-- what is kept with another component at the place
abbrev pub with_look : ℕ → Component → Kept → Kept
with_look i c k = record k { looks = record k.looks { components = slice_set k.looks.components i c } }

pub progress_number : (c d : Component) (w : World) → number_of c ≡ number_of d → progress_of c w ≡ progress_of d w
progress_number c d w e = ap (λ (n : ℕ). progress_after (filter (is_given_to n) w.given) no_progress) e

progress_set : (clients : List (Option Progress)) (w : World) (i : ℕ) (c c' : Component) → slice_get w.components i ≡ Some c → number_of c' ≡ number_of c → c'.client_out ≡ c.client_out
    → HasProgress clients w → HasProgress clients (with_component i c' w)
progress_set clients w i c c' at n o P = λ j d h out.
    let same : j ≡ i → slice_get clients j ≡ Some (Some (progress_of d w)) = λ e.
    let g : Some d ≡ Some c' = sym h ∙ rw e (get_set_same w.components i c c' at) in
    let q : d ≡ c' = cc in
    let p = P i c at (sym o ∙ (ap (λ (x : Component). x.client_out) (sym q) ∙ out)) in
    rw (e, q, progress_number c' c w n) p in
    let other : j ≢ i → slice_get clients j ≡ Some (Some (progress_of d w)) = λ e. P j d (sym (get_set_other w.components i j c' e) ∙ h) out in
    elim (eqb_tells j i) [ inl e ↦ same e.1 | inr e ↦ other e.1 ]

pub lift_component : (k : Kept) (i : ℕ) (c c' : Component) → slice_get k.looks.components i ≡ Some c → KeepsPart c c' → c'.client_out ≡ c.client_out
    → StepsBare k (with_look i c' k) (λ w v. v ≡ with_component i c' w)
lift_component k i c c' at K o = λ w S.
    let cs : w.components ≡ k.looks.components = ap (λ (l : Look). l.components) S.looks in (
      with_component i c' w,
      record {
        looks = ap (λ (l : Look). record l { components = slice_set l.components i c' }) S.looks;
        loads = S.loads;
        noticed = S.noticed;
        progress = progress_set k.clients w i c c' (rw cs at) K.number o S.progress;
        streams = streams_set w i c c' (rw cs at) K S.streams;
        once = S.once;
        given = S.given;
      },
      refl,
    )
