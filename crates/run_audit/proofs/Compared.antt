-- Each sink stays compared with its file, as works go out and come back.
use Rattle.std.proofs.Common.{◌≡◌, ◌≢◌, inl, inr, ℕ, nat_eq, List, Option, Some, None, slice_get, slice_set, refl, sym, ◌∙◌, subst, ne_eqb, eq-eqb}
use Rattle.machine_laws.proofs.Every.{at_set}
use Rattle.audio_parts.specs.Objects.{BothOrNone, FileStays, SinkStays}
use Rattle.audio_parts.specs.Shown.{ShownPart}
use Rattle.audio_parts.specs.declared.part_file.PartFile.{PartFile}
use Rattle.audio_parts.specs.declared.part_file.PartFile.TheVariants as files
use Rattle.il_flow.specs.Works.{WorkOf}
use Rattle.il_graph.specs.Shown.{Shown}
use Rattle.graph_acts.specs.Objects.{files_in, with_at}
use Rattle.compared_files.specs.Comparing.{ComparingValue, known_by}
use Rattle.compared_files.proofs.Known.{known_bytes}
use Rattle.run_audit.specs.Replaying.{AreCompared, IsComparedWith}

module _ {S : Type 0} (source_name : S → List ℕ) (told : S → Option (List ℕ)) (ends : S → Option ℕ) (name : ComparingValue S → List ℕ) (faults : ComparingValue S → ℕ) (source : S → S → Type 0) (named : (snk : ComparingValue S) → name snk ≡ known_by (source_name snk.src) (told snk.src) (ends snk.src)) where
  pub sink_still : (snk now : ComparingValue S) → SinkStays name faults snk now → told now.src ≡ told snk.src
  sink_still snk now K = known_bytes (source_name now.src) (source_name snk.src) (told now.src) (told snk.src) (ends now.src) (ends snk.src) (sym (named now) ∙ (K.name ∙ named snk))

  pub compared_still : (t : Option (List ℕ)) (before now : Option (PartFile S (ComparingValue S))) → BothOrNone (FileStays source (SinkStays name faults)) before now → IsComparedWith told t before → IsComparedWith told t now
  compared_still t None None K h = h
  compared_still t None (Some file) K h = absurd K
  compared_still t (Some file) None K h = absurd K
  compared_still t (Some (files.From src format frames)) (Some (files.From src' format' frames')) K h = h
  compared_still t (Some (files.From src format frames)) (Some (files.To snk frames')) K h = absurd K
  compared_still t (Some (files.To snk frames)) (Some (files.From src format frames')) K h = absurd K
  compared_still t (Some (files.To snk frames)) (Some (files.To snk' frames')) K h = (h.0, sink_still snk snk' K.1 ∙ h.1)

module _ {S C : Type 0} (told : S → Option (List ℕ)) (sinks : ℕ → Option (List ℕ)) (works : List (Option (WorkOf (ShownPart S (ComparingValue S))))) (old new : Shown S (ComparingValue S) C) (H : AreCompared told sinks works old) where
  abbrev File : Type 0
  File = Option (PartFile S (ComparingValue S))

  pub compared_stay : ((number : ℕ) → files_in new number ≡ files_in old number) → AreCompared told sinks works new
  compared_stay K = record { inside = λ j at. subst (IsComparedWith told (sinks j)) (sym (K j)) (H.inside j at); outside = H.outside }

  elsewhere : (file : File) (place j : ℕ) (files : ℕ → File) → j ≢ place → with_at nat_eq (Some (place, file)) files j ≡ files j
  elsewhere file place j files n = let e = ne_eqb j place n in rw e refl

  there : (file : File) (place : ℕ) (files : ℕ → File) → with_at nat_eq (Some (place, file)) files place ≡ file
  there file place files = let e = eq-eqb place place refl in rw e refl

  -- a work goes out with the file that was there
  pub compared_out : (place : ℕ) (work : WorkOf (ShownPart S (ComparingValue S))) → slice_get works place ≡ Some None → (work.part).file ≡ files_in old place
      → ((number : ℕ) → files_in new number ≡ with_at nat_eq (Some (place, None)) (files_in old) number) → AreCompared told sinks (slice_set works place (Some work)) new
  compared_out place work free file K = record {
    inside = λ j at. elim (at_set works place j (Some work) None at) [
      | inl e ↦ let z : None ≡ Some work = e.1 in absurd cc
      | inr e ↦ subst (IsComparedWith told (sinks j)) (sym (K j ∙ elsewhere None place j (files_in old) e.0)) (H.inside j e.1)
    ];
    outside = λ j y at. elim (at_set works place j (Some work) (Some y) at) [
      | inl e ↦
          let q : Some y ≡ Some work = e.1 in
          let same : work ≡ y = cc in
          subst (λ (z : WorkOf (ShownPart S (ComparingValue S))). IsComparedWith told (sinks j) (z.part).file) same
          (subst (λ (k : ℕ). IsComparedWith told (sinks k) (work.part).file) (sym e.0) (subst (IsComparedWith told (sinks place)) (sym file) (H.inside place free)))
      | inr e ↦ H.outside j y e.1
    ];
  }

  -- it comes back with its file
  pub compared_back : (place : ℕ) (file : File) → IsComparedWith told (sinks place) file → ((number : ℕ) → files_in new number ≡ with_at nat_eq (Some (place, file)) (files_in old) number) → AreCompared told sinks (slice_set works place None) new
  compared_back place file C K = record {
    inside = λ j at. elim (at_set works place j None None at) [
      | inl e ↦ subst (λ (k : ℕ). IsComparedWith told (sinks k) (files_in new k)) (sym e.0) (subst (IsComparedWith told (sinks place)) (sym (K place ∙ there file place (files_in old))) C)
      | inr e ↦ subst (IsComparedWith told (sinks j)) (sym (K j ∙ elsewhere file place j (files_in old) e.0)) (H.inside j e.1)
    ];
    outside = λ j y at. elim (at_set works place j None (Some y) at) [
      | inl e ↦ let z : Some y ≡ None = e.1 in absurd cc
      | inr e ↦ H.outside j y e.1
    ];
  }
