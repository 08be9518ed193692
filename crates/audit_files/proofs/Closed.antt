-- Files that were just opened are closed, which leaves all as it was.
use Rattle.std.proofs.Common.{◌≡◌, ℕ, zero, suc, ◌<◌, ◌≤◌, List, [], ◌∷◌, length, slice_get, Option, Some, None, option_map, Ok, inl, inr, refl, sym, ◌∙◌, ap, subst, arith}
use Rattle.std.specs.List.{slice_index_or, sum_by}
use Rattle.std.proofs.lemmas.Bool.{cases_lt}
use Rattle.std.proofs.lemmas.List.Sums.{sum_by-cons}
use Rattle.std.proofs.lemmas.Option.{slice_get_within}
use Rattle.outside_io.specs.declared.source.Source.{Ghosts as SourceGhosts}
use Rattle.outside_io.specs.Files.{Outside}
use Rattle.wav_form.specs.declared.heads.WavHead.{WavHead}
use Rattle.audio_parts.specs.declared.part_file.PartFile.{PartFile}
use Rattle.audio_parts.specs.declared.part_file.PartFile.TheVariants as files
use Rattle.script_lang.specs.declared.play_line.PartForm.{PartForm}
use Rattle.script_lang.specs.declared.play_line.PartForm.TheVariants as forms
use Rattle.script_lang.specs.declared.play_line.PartLine.{PartLine}
use Rattle.play_build_laws.proofs.Places.{get_there}
use Rattle.play_forms.specs.Parts.{source_number}
use Rattle.play_result_laws.specs.Files.{written_by}
use Rattle.play_files.specs.Closing.{AreClosed, failed_reads}
use Rattle.play_files.specs.Opening.{AreRead, IsReadFor, IsStill}
use Rattle.play_files.specs.Seen.{FileSeen, SinkSeen, Writes, file_seen, files_seen}
use Rattle.play_files.proofs.Closings.{unread_names}
use Rattle.play_files.proofs.Stopped.{unseen_at}
use Rattle.compared_files.specs.Comparing.{ComparingValue}
use Rattle.audit_files.specs.Compared.{HaveCompared, IsComparedBy, compared, read_seen}

none_failed : (seen : List (Option FileSeen)) → ((place : ℕ) (file : Option FileSeen) → slice_get seen place ≡ Some file → failed_reads file ≡ 0) → sum_by failed_reads seen ≡ 0
none_failed [] each = refl
none_failed (file ∷ seen) each =
    let a = each zero file refl in
    let b = none_failed seen (λ place other e. each (suc place) other e) in
    sum_by-cons failed_reads file seen ∙ (omega arith)

module _ {S : Type 0} (g : SourceGhosts S) where
  abbrev Entry : Type 0
  Entry = Option (PartFile S (ComparingValue S))

  -- each file is read
  no_sink_seen : (file : Entry) (sink : SinkSeen) (frames : ℕ) → option_map (read_seen g) file ≡ Some (Writes sink frames) → ⊥
  no_sink_seen (Some (files.From src format count)) sink frames e = cc
  no_sink_seen (Some (files.To snk count)) sink frames e = cc
  no_sink_seen None sink frames e = cc

  empty_calm : (file : Entry) → option_map (file_seen g (compared g)) file ≡ None → failed_reads (option_map (read_seen g) file) ≡ 0
  empty_calm None e = refl
  empty_calm (Some (files.From src format frames)) e = absurd cc
  empty_calm (Some (files.To snk frames)) e = absurd cc

  read_calm : (old : Outside) (held : Option WavHead) (form : PartForm) (file : Entry) → IsReadFor old held form (option_map (file_seen g (compared g)) file) → failed_reads (option_map (read_seen g) file) ≡ 0
  read_calm old held (forms.Source name) (Some (files.From src format frames)) r = (r.4).faults
  read_calm old held (forms.Source name) (Some (files.To snk frames)) r = absurd r
  read_calm old held (forms.Source name) None r = refl
  read_calm old held (forms.Late name) (Some (files.From src format frames)) r = (r.4).faults
  read_calm old held (forms.Late name) (Some (files.To snk frames)) r = absurd r
  read_calm old held (forms.Late name) None r = refl
  read_calm old held forms.Decoder file r = empty_calm file r
  read_calm old held forms.Alaw file r = empty_calm file r
  read_calm old held forms.Mulaw file r = empty_calm file r
  read_calm old held (forms.Gain gain) file r = empty_calm file r
  read_calm old held (forms.Mixer weights) file r = empty_calm file r
  read_calm old held (forms.Splitter outputs) file r = empty_calm file r
  read_calm old held (forms.Sink name) file r = empty_calm file r

  compared_calm : (old : Outside) (planned : ℕ) (name : List ℕ) (file : Entry) → IsComparedBy g old planned name file → failed_reads (option_map (read_seen g) file) ≡ 0
  compared_calm old planned name (Some (files.To snk frames)) I = (I.2).faults
  compared_calm old planned name (Some (files.From src format frames)) I = absurd I
  compared_calm old planned name None I = absurd I

  entry_calm : (entries : List Entry) → ((place : ℕ) (file : Entry) → slice_get entries place ≡ Some file → failed_reads (option_map (read_seen g) file) ≡ 0)
      → (place : ℕ) (file : Option FileSeen) → slice_get (files_seen (read_seen g) entries) place ≡ Some file → failed_reads file ≡ 0
  entry_calm entries each place file e =
      let u = unseen_at (read_seen g) entries place file e in
      sym (ap failed_reads u.2) ∙ each place u.0 u.1

  pub all_calm : (entries : List Entry) → ((place : ℕ) (file : Entry) → slice_get entries place ≡ Some file → failed_reads (option_map (read_seen g) file) ≡ 0) → sum_by failed_reads (files_seen (read_seen g) entries) ≡ 0
  all_calm entries each = none_failed (files_seen (read_seen g) entries) (entry_calm entries each)

  -- none failed, and so closing them leaves all as it was
  pub closed_still : (entries : List Entry) (mid new : Outside) → ((place : ℕ) (file : Entry) → slice_get entries place ≡ Some file → failed_reads (option_map (read_seen g) file) ≡ 0)
      → AreClosed (files_seen (read_seen g) entries) mid new (Ok tt) → IsStill mid new
  closed_still entries mid new each C =
      let none = C.unwritten (λ place sink at. (let u = unseen_at (read_seen g) entries place (Some (Writes sink at.0)) at.1 in no_sink_seen u.0 sink at.0 u.2)) in
      let calm = all_calm entries each in
      record {
        goes_on = C.goes_on;
        files = none.0;
        reads = C.unread calm;
        unread = unread_names (files_seen (read_seen g) entries) mid.failed_reads new.failed_reads calm C.named_reads;
        writes = none.1;
        absences = C.absences;
        failed = none.2;
      }

  same_at : (entries : List Entry) (place : ℕ) (a b : Entry) → slice_get entries place ≡ Some a → slice_get entries place ≡ Some b → a ≡ b
  same_at entries place a b e f = let s : Some a ≡ Some b = sym e ∙ f in cc

  -- so it is of sources that were read
  pub read_each : (old : Outside) (parts : List PartLine) (count : ℕ) (heads : List WavHead) (entries : List Entry) → AreRead (file_seen g (compared g)) old parts count heads entries → count ≤ length parts
      → (place : ℕ) (file : Entry) → slice_get entries place ≡ Some file → failed_reads (option_map (read_seen g) file) ≡ 0
  read_each old parts count heads entries R fits place file e =
      let m = R.many in
      let b = slice_get_within entries place file e in
      let p = get_there parts place (omega arith) in
      let h = R.each place p.0 (omega arith) p.1 in
      subst (λ (f : Entry). failed_reads (option_map (read_seen g) f) ≡ 0) (same_at entries place h.0 file h.1 e)
      (read_calm old (slice_get heads (source_number parts place)) (p.0).form h.0 h.2)

  -- and of the files of sinks that came to them
  pub compared_each : (old : Outside) (parts : List PartLine) (planned : List ℕ) (count : ℕ) (heads : List WavHead) (before after : List Entry) → AreRead (file_seen g (compared g)) old parts (length parts) heads before
      → HaveCompared g old parts planned count before after → (place : ℕ) (file : Entry) → slice_get after place ≡ Some file → failed_reads (option_map (read_seen g) file) ≡ 0
  compared_each old parts planned count heads before after R H place file e =
      let m = R.many in
      let n = H.many in
      let b = slice_get_within after place file e in
      let p = get_there parts place (omega arith) in
      elim (cases_lt place count) [
        | inl lt ↦ by_form place file e p.0 p.1 lt (written_by (p.0).form) refl
        | inr le ↦ read_each old parts (length parts) heads before R (omega arith) place file (sym (H.rest place le) ∙ e)
      ]
    where
      by_form : (place : ℕ) (file : Entry) → slice_get after place ≡ Some file → (part : PartLine) → slice_get parts place ≡ Some part → place < count → (o : Option (List ℕ)) → written_by part.form ≡ o → failed_reads (option_map (read_seen g) file) ≡ 0
      by_form place file e part p lt (Some name) w =
          let h = H.sinks place part name lt p w in
          subst (λ (f : Entry). failed_reads (option_map (read_seen g) f) ≡ 0) (same_at after place h.0 file h.1 e) (compared_calm old (slice_index_or planned place 0) name h.0 h.2)
      by_form place file e part p lt None w = read_each old parts (length parts) heads before R (omega arith) place file (sym (H.others place part p w) ∙ e)
