-- A component that is changed in its place keeps its part, where its kind, its file and its work stay.
use Rattle.std.proofs.Common.{◌≡◌, ◌≢◌, inl, inr, ℕ, ◌-◌, ◌*◌, Bool, false, not, map, List, drop, Option, Some, MatchOption, option_map, slice_get, sym, ◌∙◌, ap, subst}
use Rattle.std.proofs.lemmas.Bool.Decides.{eqb_tells}
use Rattle.std.proofs.lemmas.Option.{slice_get-map}
use Rattle.omx_types.specs.Formats.{frame_bytes_of}
use Rattle.part_api.specs.declared.attached.Attached.{Attached}
use Rattle.part_api.specs.declared.attached.Attached.TheVariants.{To}
use Rattle.part_api.specs.Terms.{Terms, Writing}
use Rattle.il_machine.specs.Lists.{is_empty}
use Rattle.il_machine.specs.Kinds.{is_source}
use Rattle.il_machine.specs.World.{Component, Stream, World, number_of, stream_of, with_component}
use Rattle.il_machine.specs.Parts.{terms_of, frames_of, file_format}
use Rattle.il_machine.specs.Whole.{PartSeen, HasDone, HasParts}
use Rattle.stock_laws.specs.Parts.{KeepsPart}
use Rattle.stock_laws.proofs.Lists.{get_set_same, get_set_other, map_set}
use Rattle.stock_laws.proofs.Entries.{set_same}

-- what a part has done is told by its kind and its file
pub done_alike : (t u : Terms) (f g : Bool) (s : Stream) (p : PartSeen) → u.kind ≡ t.kind → u.file ≡ t.file → g ≡ f → HasDone t f s p → HasDone u g s p
done_alike t u f g s p k e q H = record {
  left = λ h. subst (λ (x : Option Attached). p.left ≡ Some (frames_of x - s.frames)) (sym e) (H.left (ap is_source (sym k) ∙ h));
  rest = λ h b. subst (λ (x : Option Attached). p.rest ≡ option_map (drop (s.frames * frame_bytes_of (file_format x))) s.known) (sym e) (H.rest (ap is_source (sym k) ∙ h) (sym q ∙ b));
  kept = λ n h. H.kept n (sym e ∙ h);
  writing = λ n h b. subst (λ (x : Option Attached). MatchOption p.writing ⊥ (λ (y : Writing). (x ≡ Some (To y.planned)) × (y.headed ≡ not (is_empty s.written)) × (y.left ≡ y.planned - s.frames) × (y.due ≡ false)))
      (sym e) (H.writing n (sym e ∙ h) (sym q ∙ b));
}

pub parts_set : (parts : List (Option PartSeen)) (w : World) (i : ℕ) (c d : Component) → slice_get w.components i ≡ Some c → KeepsPart c d → HasParts parts w → HasParts parts (with_component i d w)
parts_set parts w i c d at K P = λ j x s h out st.
    let same : j ≡ i → (p : PartSeen) × (slice_get parts j ≡ Some (Some p)) × HasDone (terms_of x) x.part.failed s p = λ e.
    let g : Some x ≡ Some d = sym h ∙ rw e (get_set_same w.components i c d at) in
    let q : x ≡ d = cc in
    let y = P i c s at (sym K.work ∙ (ap (λ (z : Component). z.work) (sym q) ∙ out)) (ap (λ (n : ℕ). stream_of n w) (sym K.number ∙ ap number_of (sym q)) ∙ st) in (
      y.0,
      subst (λ (m : ℕ). slice_get parts m ≡ Some (Some y.0)) (sym e) y.1,
      done_alike (terms_of c) (terms_of x) c.part.failed x.part.failed s y.0
          (ap (λ (z : Component). z.settings.kind) q ∙ K.kind) (ap (λ (z : Component). z.file) q ∙ K.file) (ap (λ (z : Component). z.part.failed) q ∙ K.failed) y.2,
    ) in
    let other : j ≢ i → (p : PartSeen) × (slice_get parts j ≡ Some (Some p)) × HasDone (terms_of x) x.part.failed s p = λ e. P j x s (sym (get_set_other w.components i j d e) ∙ h) out st in
    elim (eqb_tells j i) [ inl e ↦ same e.1 | inr e ↦ other e.1 ]

-- each component there has its number
pub streams_set : (w : World) (i : ℕ) (c d : Component) → slice_get w.components i ≡ Some c → KeepsPart c d → map (λ s. s.component) w.streams ≡ map number_of w.components
    → map (λ s. s.component) w.streams ≡ map number_of (with_component i d w).components
streams_set w i c d at K e = e ∙ sym (map_set number_of w.components i d ∙ rw (K.number) (set_same (map number_of w.components) i (number_of c) (slice_get-map number_of w.components i ∙ ap (option_map number_of) at)))
