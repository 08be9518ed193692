-- Sources and then sinks: all files are open.
use Rattle.std.proofs.Common.{◌≡◌, ℕ, List, length, slice_get, Option, Some, None, option_map, refl, ◌∙◌, ap}
use Rattle.std.specs.List.{slice_index_or}
use Rattle.std.proofs.lemmas.Option.{slice_get_within}
use Rattle.outside_io.specs.Files.{Outside}
use Rattle.wav_form.specs.declared.heads.WavHead.{WavHead}
use Rattle.script_lang.specs.declared.play_line.PartForm.{PartForm}
use Rattle.script_lang.specs.declared.play_line.PartForm.TheVariants as forms
use Rattle.script_lang.specs.declared.play_line.PartLine.{PartLine}
use Rattle.play_forms.specs.Parts.{source_number}
use Rattle.play_result_laws.specs.Files.{written_by}
use Rattle.play_files.specs.Opening.{AreOpen, AreRead, HasAt, HaveSinks, IsOpenFor, IsReadFor, IsStill, IsWrittenBy}
use Rattle.play_files.specs.Seen.{FileSeen, Reads, Writes}
use Rattle.play_files.proofs.Fronts.{sink_sooner}

module _ {F : Type 0} (seen : F → FileSeen) where
  none_seen : (file : Option F) → option_map seen file ≡ None → file ≡ None
  none_seen None e = refl
  none_seen (Some file) e = absurd cc

  none_at_sink : (old : Outside) (held : Option WavHead) (form : PartForm) (name : List ℕ) (file : Option FileSeen) → written_by form ≡ Some name → IsReadFor old held form file → file ≡ None
  none_at_sink old held (forms.Source f) name file e r = absurd cc
  none_at_sink old held (forms.Late f) name file e r = absurd cc
  none_at_sink old held forms.Decoder name file e r = absurd cc
  none_at_sink old held forms.Alaw name file e r = absurd cc
  none_at_sink old held forms.Mulaw name file e r = absurd cc
  none_at_sink old held (forms.Gain gain) name file e r = absurd cc
  none_at_sink old held (forms.Mixer weights) name file e r = absurd cc
  none_at_sink old held (forms.Splitter outputs) name file e r = absurd cc
  none_at_sink old held (forms.Sink f) name file e r = r

  -- the places of sinks are free
  pub sinks_free : (old : Outside) (parts : List PartLine) (heads : List WavHead) (entries : List (Option F)) → AreRead seen old parts (length parts) heads entries
      → (place : ℕ) (part : PartLine) (name : List ℕ) → slice_get parts place ≡ Some part → written_by part.form ≡ Some name → slice_get entries place ≡ Some None
  sinks_free old parts heads entries R place part name e w =
      let h = R.each place part (slice_get_within parts place part e) e in
      h.1 ∙ ap Some (none_seen h.0 (none_at_sink old (slice_get heads (source_number parts place)) part.form name (option_map seen h.0) w h.2))

  written_sooner : (old mid : Outside) → IsStill old mid → (planned : ℕ) (name : List ℕ) (file : Option FileSeen) → IsWrittenBy mid planned name file → IsWrittenBy old planned name file
  written_sooner old mid S planned name (Some (Writes sink frames)) w = (w.0, sink_sooner old mid S name sink w.1)
  written_sooner old mid S planned name (Some (Reads source format frames)) w = absurd w
  written_sooner old mid S planned name None w = absurd w

  open_at : (old mid : Outside) → IsStill old mid → (held : Option WavHead) (planned : ℕ) (form : PartForm) (before after : List (Option F)) (place : ℕ)
      → ((name : List ℕ) → written_by form ≡ Some name → HasAt seen after place (IsWrittenBy mid planned name)) → (written_by form ≡ None → slice_get after place ≡ slice_get before place)
      → HasAt seen before place (IsReadFor old held form) → HasAt seen after place (IsOpenFor old held planned form)
  open_at old mid S held planned (forms.Sink name) before after place sinks others read = let h = sinks name refl in (h.0, h.1, written_sooner old mid S planned name (option_map seen h.0) h.2)
  open_at old mid S held planned (forms.Source name) before after place sinks others read = (read.0, others refl ∙ read.1, read.2)
  open_at old mid S held planned (forms.Late name) before after place sinks others read = (read.0, others refl ∙ read.1, read.2)
  open_at old mid S held planned forms.Decoder before after place sinks others read = (read.0, others refl ∙ read.1, read.2)
  open_at old mid S held planned forms.Alaw before after place sinks others read = (read.0, others refl ∙ read.1, read.2)
  open_at old mid S held planned forms.Mulaw before after place sinks others read = (read.0, others refl ∙ read.1, read.2)
  open_at old mid S held planned (forms.Gain gain) before after place sinks others read = (read.0, others refl ∙ read.1, read.2)
  open_at old mid S held planned (forms.Mixer weights) before after place sinks others read = (read.0, others refl ∙ read.1, read.2)
  open_at old mid S held planned (forms.Splitter outputs) before after place sinks others read = (read.0, others refl ∙ read.1, read.2)

  pub open_of : (old mid : Outside) (parts : List PartLine) (planned : List ℕ) (count : ℕ) (heads : List WavHead) (before after : List (Option F)) → IsStill old mid → AreRead seen old parts (length parts) heads before
      → HaveSinks seen mid parts planned count before after → AreOpen seen old parts planned count heads after
  open_of old mid parts planned count heads before after S R H = record {
    many = H.many ∙ R.many;
    numbered = R.numbered;
    lawful = R.lawful;
    first = λ place part b e. open_at old mid S (slice_get heads (source_number parts place)) (slice_index_or planned place 0) part.form before after place (λ name w. H.sinks place part name b e w) (H.others place part e) (R.each place part (slice_get_within parts place part e) e);
    rest = λ place part b e. (let h = R.each place part (slice_get_within parts place part e) e in (h.0, H.rest place b ∙ h.1, h.2));
  }
