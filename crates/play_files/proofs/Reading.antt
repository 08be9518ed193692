-- The sources of a play are opened one after another.
use Rattle.std.proofs.Common.{◌≡◌, ℕ, ◌+◌, ◌<◌, true, false, List, [], ◌∷◌, ◌++◌, length, slice_get, Option, Some, None, option_map, inl, inr, refl, sym, ◌∙◌, ap, subst, arith}
use Rattle.std.proofs.lemmas.Bool.{cases_lt}
use Rattle.std.proofs.lemmas.List.{length-append}
use Rattle.std.proofs.lemmas.List.Sums.{count_by_more_no, count_by_more_yes}
use Rattle.std.proofs.lemmas.Option.{get_or_from_slice_get, slice_get_within}
use Rattle.outside_io.specs.Files.{Outside}
use Rattle.part_forms.specs.Kinds.{is_source}
use Rattle.wav_form.specs.Reading.{FitsFile}
use Rattle.wav_form.specs.declared.heads.WavHead.{WavHead}
use Rattle.script_lang.specs.declared.play_line.PartForm.{PartForm}
use Rattle.script_lang.specs.declared.play_line.PartForm.TheVariants as forms
use Rattle.script_lang.specs.declared.play_line.PartLine.{PartLine}
use Rattle.play_build_laws.proofs.Places.{pushed_at}
use Rattle.play_forms.specs.Parts.{is_source_part, kind_of, source_number}
use Rattle.play_result_laws.specs.Files.{read_by}
use Rattle.play_files.specs.Opening.{AreRead, IsReadBy, IsReadFor, IsSourceOf}
use Rattle.play_files.specs.Seen.{FileSeen, Reads, SourceSeen}
use Rattle.machine_laws.proofs.Every.{push_there}
use Rattle.play_files.proofs.Lists.{put_behind}

-- ---- which components read

pub form_reads : (form : PartForm) (name : List ℕ) → read_by form ≡ Some name → is_source (kind_of form) ≡ true
form_reads (forms.Source file) name e = refl
form_reads (forms.Late file) name e = refl
form_reads forms.Decoder name e = absurd cc
form_reads forms.Alaw name e = absurd cc
form_reads forms.Mulaw name e = absurd cc
form_reads (forms.Gain gain) name e = absurd cc
form_reads (forms.Mixer weights) name e = absurd cc
form_reads (forms.Splitter outputs) name e = absurd cc
form_reads (forms.Sink file) name e = absurd cc

pub form_reads_not : (form : PartForm) → read_by form ≡ None → is_source (kind_of form) ≡ false
form_reads_not (forms.Source file) e = absurd cc
form_reads_not (forms.Late file) e = absurd cc
form_reads_not forms.Decoder e = refl
form_reads_not forms.Alaw e = refl
form_reads_not forms.Mulaw e = refl
form_reads_not (forms.Gain gain) e = refl
form_reads_not (forms.Mixer weights) e = refl
form_reads_not (forms.Splitter outputs) e = refl
form_reads_not (forms.Sink file) e = refl

read_for : (old : Outside) (held : Option WavHead) (form : PartForm) (name : List ℕ) (file : Option FileSeen) → read_by form ≡ Some name → IsReadBy old held name file → IsReadFor old held form file
read_for old held (forms.Source file) name seen e r = let s : name ≡ file = cc in subst (λ (n : List ℕ). IsReadBy old held n seen) s r
read_for old held (forms.Late file) name seen e r = let s : name ≡ file = cc in subst (λ (n : List ℕ). IsReadBy old held n seen) s r
read_for old held forms.Decoder name seen e r = absurd cc
read_for old held forms.Alaw name seen e r = absurd cc
read_for old held forms.Mulaw name seen e r = absurd cc
read_for old held (forms.Gain gain) name seen e r = absurd cc
read_for old held (forms.Mixer weights) name seen e r = absurd cc
read_for old held (forms.Splitter outputs) name seen e r = absurd cc
read_for old held (forms.Sink file) name seen e r = absurd cc

none_for : (old : Outside) (held : Option WavHead) (form : PartForm) → read_by form ≡ None → IsReadFor old held form None
none_for old held (forms.Source file) e = absurd cc
none_for old held (forms.Late file) e = absurd cc
none_for old held forms.Decoder e = refl
none_for old held forms.Alaw e = refl
none_for old held forms.Mulaw e = refl
none_for old held (forms.Gain gain) e = refl
none_for old held (forms.Mixer weights) e = refl
none_for old held (forms.Splitter outputs) e = refl
none_for old held (forms.Sink file) e = refl

-- with one head more, what is read is
read_by_more : (old : Outside) (heads : List WavHead) (head : WavHead) (n : ℕ) (name : List ℕ) (file : Option FileSeen) → IsReadBy old (slice_get heads n) name file → IsReadBy old (slice_get (heads ++ head ∷ []) n) name file
read_by_more old heads head n name (Some (Reads source format frames)) r = (r.0, push_there heads n head r.0 r.1, r.2, r.3, r.4)
read_by_more old heads head n name (Some (FileSeen.Writes sink frames)) r = absurd r
read_by_more old heads head n name None r = absurd r

read_for_more : (old : Outside) (heads : List WavHead) (head : WavHead) (n : ℕ) (form : PartForm) (file : Option FileSeen) → IsReadFor old (slice_get heads n) form file → IsReadFor old (slice_get (heads ++ head ∷ []) n) form file
read_for_more old heads head n (forms.Source name) file r = read_by_more old heads head n name file r
read_for_more old heads head n (forms.Late name) file r = read_by_more old heads head n name file r
read_for_more old heads head n forms.Decoder file r = r
read_for_more old heads head n forms.Alaw file r = r
read_for_more old heads head n forms.Mulaw file r = r
read_for_more old heads head n (forms.Gain gain) file r = r
read_for_more old heads head n (forms.Mixer weights) file r = r
read_for_more old heads head n (forms.Splitter outputs) file r = r
read_for_more old heads head n (forms.Sink name) file r = r

module _ {F : Type 0} (seen : F → FileSeen) (old : Outside) (parts : List PartLine) where
  pub nothing_read : AreRead seen old parts 0 [] []
  nothing_read = record { many = refl; numbered = refl; lawful = λ k head e. absurd cc; each = λ place part b e. absurd (omega arith) }

  module _ (count : ℕ) (heads : List WavHead) (entries : List (Option F)) (R : AreRead seen old parts count heads entries) (part : PartLine) (there : slice_get parts count ≡ Some part) where
    at_next : (place : ℕ) (other : PartLine) → place < count + 1 → (place < count → ⊥) → slice_get parts place ≡ Some other → (place ≡ count) × (other ≡ part)
    at_next place other b n e =
        let s : place ≡ count = omega arith in
        let o : Some other ≡ Some part = sym e ∙ (ap (λ (k : ℕ). slice_get parts k) s ∙ there) in
        (s, cc)

    -- a component that reads no file
    pub none_more : read_by part.form ≡ None → AreRead seen old parts (count + 1) heads (entries ++ None ∷ [])
    none_more none = record {
      many = (let a = length-append entries (None ∷ []) in let b = R.many in omega arith);
      numbered =
          R.numbered ∙ sym (count_by_more_no is_source_part parts count part (slice_get_within parts count part there) (ap is_source_part (get_or_from_slice_get parts count part part there) ∙ form_reads_not part.form none));
      lawful = R.lawful;
      each = λ place other b e. elim (cases_lt place count) [
        | inl lt ↦ let h = R.each place other lt e in (h.0, push_there entries place None h.0 h.1, h.2)
        | inr le ↦
            let s = at_next place other b (λ l. omega (arith, l, le)) e in
            (None, put_behind entries None place (let m = R.many in let p = s.0 in omega arith), rw s.1 (none_for old (slice_get heads (source_number parts place)) part.form none))
      ];
    }

    -- one that reads
    pub file_more : (name : List ℕ) (head : WavHead) (source : SourceSeen) (file : F) → read_by part.form ≡ Some name → IsSourceOf old name head source → seen file ≡ Reads source head.format head.frames
        → AreRead seen old parts (count + 1) (heads ++ head ∷ []) (entries ++ Some file ∷ [])
    file_more name head source file reads S is =
        let number : source_number parts (count + 1) ≡ source_number parts count + 1 =
        count_by_more_yes is_source_part parts count part (slice_get_within parts count part there) (ap is_source_part (get_or_from_slice_get parts count part part there) ∙ form_reads part.form name reads) in
        record {
          many = (let a = length-append entries (Some file ∷ []) in let b = R.many in omega arith);
          numbered = (let a = length-append heads (head ∷ []) in let b = R.numbered in omega arith);
          lawful = λ k h e. elim (pushed_at heads k head h e) [ inl p ↦ R.lawful k h p | inr p ↦ (source.size, subst (λ (y : WavHead). FitsFile y source.size) (sym p.1) S.fits) ];
          each = λ place other b e. elim (cases_lt place count) [
            | inl lt ↦ let h = R.each place other lt e in (h.0, push_there entries place (Some file) h.0 h.1, read_for_more old heads head (source_number parts place) other.form (option_map seen h.0) h.2)
            | inr le ↦
                let s = at_next place other b (λ l. omega (arith, l, le)) e in
                let n : source_number parts place ≡ length heads = ap (source_number parts) s.0 ∙ sym R.numbered in
                let r : IsReadBy old (slice_get (heads ++ head ∷ []) (source_number parts place)) name (Some (Reads source head.format head.frames)) =
                (head, put_behind heads head (source_number parts place) n, refl, refl, S) in (
                  Some file,
                  put_behind entries (Some file) place (let m = R.many in let p = s.0 in omega arith),
                  rw (is, s.1) (read_for old (slice_get (heads ++ head ∷ []) (source_number parts place)) part.form name (Some (Reads source head.format head.frames)) reads r),
                )
          ];
        }
