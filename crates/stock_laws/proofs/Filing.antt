-- A file comes to a component of what is kept, in each world.
use Rattle.std.proofs.Common.{◌≡◌, ◌≢◌, inl, inr, map, List, Option, Some, slice_get, slice_set, ℕ, option_map, refl, sym, ◌∙◌, ap}
use Rattle.std.proofs.lemmas.Bool.Decides.{eqb_tells}
use Rattle.std.proofs.lemmas.Option.{slice_get-map}
use Rattle.il_machine.specs.declared.answer.Progress.{Progress}
use Rattle.il_machine.specs.World.{Component, World, number_of}
use Rattle.il_machine.specs.Look.{Look}
use Rattle.il_machine.specs.Components.{progress_of}
use Rattle.il_machine.specs.Files.{Offered, attached, stream_with, with_file}
use Rattle.il_machine.specs.Whole.{Kept, HasProgress}
use Rattle.stock_laws.specs.Bare.{StepsBare}
use Rattle.stock_laws.proofs.Lists.{get_set_same, get_set_other, map_set}
use Rattle.stock_laws.proofs.Entries.{set_same}
use Rattle.stock_laws.proofs.Lifting.{with_look}
use Rattle.stock_laws.proofs.Works.{streams_kept}

progress_filed : (clients : List (Option Progress)) (w : World) (i : ℕ) (c : Component) (file : Offered) → slice_get w.components i ≡ Some c → HasProgress clients w → HasProgress clients (with_file i c file w)
progress_filed clients w i c file at P = λ j d h out.
    let x : Component = record c { file = Some (attached file) } in
    let same : j ≡ i → slice_get clients j ≡ Some (Some (progress_of d (with_file i c file w))) = λ e.
    let g : Some d ≡ Some x = sym h ∙ rw e (get_set_same w.components i c x at) in
    let q : d ≡ x = cc in
    let p = P i c at (ap (λ (y : Component). y.client_out) (sym q) ∙ out) in
    rw (e, q) p in
    let other : j ≢ i → slice_get clients j ≡ Some (Some (progress_of d (with_file i c file w))) = λ e. P j d (sym (get_set_other w.components i j x e) ∙ h) out in
    elim (eqb_tells j i) [ inl e ↦ same e.1 | inr e ↦ other e.1 ]

pub lift_filed : (k : Kept) (i : ℕ) (c : Component) (file : Offered) → slice_get k.looks.components i ≡ Some c
    → StepsBare k (with_look i (record c { file = Some (attached file) }) k) (λ w v. v ≡ with_file i c file w)
lift_filed k i c file at = λ w S.
    let cs : w.components ≡ k.looks.components = ap (λ (l : Look). l.components) S.looks in
    let x : Component = record c { file = Some (attached file) } in
    let here : slice_get w.components i ≡ Some c = rw cs at in
    let numbers : map number_of (slice_set w.components i x) ≡ map number_of w.components = map_set number_of w.components i x ∙ set_same (map number_of w.components) i (number_of c) (slice_get-map number_of w.components i ∙ ap (option_map number_of) here) in (
      with_file i c file w,
      record {
        looks = ap (λ (l : Look). record l { components = slice_set l.components i x }) S.looks;
        loads = S.loads;
        noticed = S.noticed;
        progress = progress_filed k.clients w i c file here S.progress;
        streams = streams_kept (number_of c) (stream_with file) w.streams (λ s. refl) ∙ (S.streams ∙ sym numbers);
        once = S.once;
        given = S.given;
      },
      refl,
    )
