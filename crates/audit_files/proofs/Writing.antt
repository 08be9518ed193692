-- The files of the sinks are opened one after another.
use Rattle.std.proofs.Common.{◌≡◌, ℕ, ◌+◌, ◌<◌, ◌≤◌, List, length, length-set, slice_get, slice_set, Option, Some, None, IsSome, IsTrue, inl, inr, refl, sym, ◌∙◌, ap, subst, arith}
use Rattle.std.specs.List.{slice_index_or}
use Rattle.std.proofs.lemmas.Bool.{cases_lt}
use Rattle.outside_io.specs.declared.source.Source.{Ghosts as SourceGhosts}
use Rattle.outside_io.specs.Files.{Outside}
use Rattle.audio_parts.specs.declared.part_file.PartFile.{PartFile}
use Rattle.audio_parts.specs.declared.part_file.PartFile.TheVariants as files
use Rattle.script_lang.specs.declared.play_line.PartLine.{PartLine}
use Rattle.stream_plan.proofs.Lists.{set_at, set_other}
use Rattle.play_result_laws.specs.Files.{written_by}
use Rattle.compared_files.specs.Comparing.{ComparingValue}
use Rattle.audit_files.specs.Compared.{HaveCompared, IsComparedBy}
use Rattle.audit_files.specs.Left.{AreSinksThere}

module _ {S : Type 0} (g : SourceGhosts S) (old : Outside) (parts : List PartLine) (planned : List ℕ) where
  abbrev Entry : Type 0
  Entry = Option (PartFile S (ComparingValue S))

  pub none_compared : (entries : List Entry) → HaveCompared g old parts planned 0 entries entries
  none_compared entries = record { many = refl; sinks = λ place part name b e w. absurd (omega arith); others = λ place part e w. refl; rest = λ place b. refl }

  -- a comparison's file is told
  pub told_there : (frames : ℕ) (name : List ℕ) (file : Entry) → IsComparedBy g old frames name file → IsTrue old.tells → IsSome (old.file name)
  told_there frames name (Some (files.To snk count)) I tells = (I.2).there tells
  told_there frames name (Some (files.From src format count)) I tells = absurd I
  told_there frames name None I tells = absurd I

  pub sinks_there : (count : ℕ) (before after : List Entry) → HaveCompared g old parts planned count before after → AreSinksThere old parts count
  sinks_there count before after H tells place name b (part, e, w) =
      let h = H.sinks place part name b e w in
      told_there (slice_index_or planned place 0) name h.0 h.2 tells

  module _ (count : ℕ) (before after : List Entry) (H : HaveCompared g old parts planned count before after) (part : PartLine) (there : slice_get parts count ≡ Some part) where
    at_next : (place : ℕ) (other : PartLine) → place < count + 1 → count ≤ place → slice_get parts place ≡ Some other → (place ≡ count) × (other ≡ part)
    at_next place other b n e =
        let s : place ≡ count = omega arith in
        let o : Some other ≡ Some part = sym e ∙ (ap (λ (k : ℕ). slice_get parts k) s ∙ there) in
        (s, cc)

    -- a component that writes no file
    pub other_more : written_by part.form ≡ None → HaveCompared g old parts planned (count + 1) before after
    other_more none = record {
      many = H.many;
      sinks = λ place other name b e w. elim (cases_lt place count) [
        | inl lt ↦ H.sinks place other name lt e w
        | inr le ↦ let s = at_next place other b le e in let z : Some name ≡ None = sym w ∙ (ap (λ (y : PartLine). written_by y.form) s.1 ∙ none) in absurd cc
      ];
      others = H.others;
      rest = λ place b. H.rest place (omega arith);
    }

    -- one that writes
    pub sink_more : (name : List ℕ) (file : PartFile S (ComparingValue S)) → written_by part.form ≡ Some name → IsComparedBy g old (slice_index_or planned count 0) name (Some file)
        → count < length after → HaveCompared g old parts planned (count + 1) before (slice_set after count (Some file))
    sink_more name file writes I within = record {
      many = length-set after count (Some file) ∙ H.many;
      sinks = λ place other its b e w. elim (cases_lt place count) [
        | inl lt ↦ let h = H.sinks place other its lt e w in (h.0, set_other after count place (Some file) (λ s. omega (arith, s, lt)) ∙ h.1, h.2)
        | inr le ↦
            let s = at_next place other b le e in
            let n : Some its ≡ Some name = sym w ∙ (ap (λ (y : PartLine). written_by y.form) s.1 ∙ writes) in
            let same : its ≡ name = cc in (
              Some file,
              ap (λ (k : ℕ). slice_get (slice_set after count (Some file)) k) s.0 ∙ set_at after count (Some file) within,
              subst (λ (k : ℕ). IsComparedBy g old (slice_index_or planned k 0) its (Some file)) (sym s.0)
                  (subst (λ (y : List ℕ). IsComparedBy g old (slice_index_or planned count 0) y (Some file)) (sym same) I),
            )
      ];
      others = λ place other e w. set_other after count place (Some file) (λ s. (let o : Some other ≡ Some part = sym e ∙ (ap (λ (k : ℕ). slice_get parts k) s ∙ there) in let same : other ≡ part = cc in let z : Some name ≡ None = sym writes ∙ (ap (λ (y : PartLine). written_by y.form) (sym same) ∙ w) in absurd cc)) ∙ H.others place other e w;
      rest = λ place b. set_other after count place (Some file) (λ s. omega (arith, s, b)) ∙ H.rest place (omega arith);
    }
    -- from a media that was still until then
