-- A plan is ready whose sources are open and whose sinks are compared.
use Rattle.std.proofs.Common.{◌≡◌, ℕ, false, List, [], ◌++◌, length, slice_get, Option, Some, None, option_map, IsSome, IsTrue, refl, ◌∙◌, ap, subst, arith}
use Rattle.std.specs.List.{count_by, slice_index_or}
use Rattle.std.specs.Option.{option_and_then}
use Rattle.std.proofs.lemmas.List.{take_all}
use Rattle.std.proofs.lemmas.Option.{slice_get_within}
use Rattle.outside_io.specs.declared.source.Source.{Ghosts as SourceGhosts}
use Rattle.outside_io.specs.Files.{GoesOn, Outside, with_names}
use Rattle.wav_form.specs.declared.heads.WavHead.{WavHead}
use Rattle.audio_parts.specs.declared.part_file.PartFile.{PartFile}
use Rattle.audio_parts.specs.declared.part_file.PartFile.TheVariants as files
use Rattle.script_lang.specs.declared.play_line.PartForm.{PartForm}
use Rattle.script_lang.specs.declared.play_line.PartForm.TheVariants as forms
use Rattle.script_lang.specs.declared.play_line.PartLine.{PartLine}
use Rattle.script_lang.specs.declared.script.Script.{Script}
use Rattle.play_forms.specs.Parts.{is_source_part, source_number}
use Rattle.play_forms.specs.Plans.{IsPlanOfScript, PlanValue}
use Rattle.play_plan_laws.specs.Limits.{IsScripted}
use Rattle.play_result_laws.specs.Files.{AreFiles, read_by, written_by}
use Rattle.play_files.specs.Asked.{read_names, written_names}
use Rattle.play_files.specs.Opening.{AreOpen, AreRead, HasAt, IsOpenFor, IsReadBy, IsReadFor, IsSourceOf, IsWrittenBy}
use Rattle.play_files.specs.Seen.{FileSeen, Reads, SourceSeen, Writes, file_seen, offer}
use Rattle.play_files.specs.Stopping.{HasOpenedAll}
use Rattle.play_files.specs.Whole.{known_by, offer_at, play_files, there_by}
use Rattle.play_files.proofs.Ready.{are_offered, is_ready, read_reads, sources_told}
use Rattle.compared_files.specs.Comparing.{ComparingValue, told_by}
use Rattle.audit_files.specs.Compared.{AreCompared, HaveCompared, IsComparedBy, compared, untouched}
use Rattle.audit_files.specs.Left.{HasComparedAll}

-- the media, if it told nothing
abbrev untelling : Outside → Outside
untelling old = record old { tells = false }

abbrev asked_so : Outside → List (List ℕ) → Outside
asked_so old names = record (untelling old) { openings = with_names names old.openings }

writes_not : (form : PartForm) (name : List ℕ) → read_by form ≡ Some name → written_by form ≡ None
writes_not (forms.Source f) name e = refl
writes_not (forms.Late f) name e = refl
writes_not (forms.Sink f) name e = absurd cc
writes_not forms.Decoder name e = absurd cc
writes_not forms.Alaw name e = absurd cc
writes_not forms.Mulaw name e = absurd cc
writes_not (forms.Gain gain) name e = absurd cc
writes_not (forms.Mixer weights) name e = absurd cc
writes_not (forms.Splitter outputs) name e = absurd cc

some_of : {X : Type 0} (o : Option X) → IsSome o → (x : X) × (o ≡ Some x)
some_of (Some x) s = (x, refl)
some_of None s = absurd cc

module _ {S : Type 0} (g : SourceGhosts S) where
  abbrev Entry : Type 0
  Entry = Option (PartFile S (ComparingValue S))

  abbrev seen : PartFile S (ComparingValue S) → FileSeen
  seen = file_seen g (compared g)

  untold_source : (old : Outside) (name : List ℕ) (head : WavHead) (source : SourceSeen) → IsSourceOf old name head source → IsSourceOf (untelling old) name head source
  untold_source old name head source I = record {
    offset = I.offset;
    name_is = λ tells. absurd cc;
    fits = I.fits;
    faults = I.faults;
    told = I.told;
    whole = I.whole;
    ends = I.ends;
    starts = I.starts;
    head_is = λ tells. absurd cc;
    reads_as = I.reads_as;
  }

  untold_read : (old : Outside) (held : Option WavHead) (name : List ℕ) (file : Option FileSeen) → IsReadBy old held name file → IsReadBy (untelling old) held name file
  untold_read old held name (Some (Reads source format frames)) r = (r.0, r.1, r.2, r.3, untold_source old name r.0 source r.4)
  untold_read old held name (Some (Writes sink frames)) r = absurd r
  untold_read old held name None r = absurd r

  untold_for : (old : Outside) (held : Option WavHead) (form : PartForm) (file : Option FileSeen) → IsReadFor old held form file → IsReadFor (untelling old) held form file
  untold_for old held (forms.Source name) file r = untold_read old held name file r
  untold_for old held (forms.Late name) file r = untold_read old held name file r
  untold_for old held forms.Decoder file r = r
  untold_for old held forms.Alaw file r = r
  untold_for old held forms.Mulaw file r = r
  untold_for old held (forms.Gain gain) file r = r
  untold_for old held (forms.Mixer weights) file r = r
  untold_for old held (forms.Splitter outputs) file r = r
  untold_for old held (forms.Sink name) file r = r

  compared_written : (old : Outside) (planned : ℕ) (name : List ℕ) (file : Entry) → IsComparedBy g old planned name file → IsWrittenBy (untelling old) planned name (option_map seen file)
  compared_written old planned name (Some (files.To snk frames)) I = (
    I.0,
    record {
      faults = ap (λ (x : ComparingValue S). x.failed) I.1;
      told = λ tells. absurd cc;
      name_is = λ tells. absurd cc;
    },
  )
  compared_written old planned name (Some (files.From src format frames)) I = absurd I
  compared_written old planned name None I = absurd I

  none_of : (file : Entry) → option_map seen file ≡ None → file ≡ None
  none_of None e = refl
  none_of (Some file) e = absurd cc

  nothing_there : (entries : List Entry) (place : ℕ) → HasAt seen entries place (λ (file : Option FileSeen). file ≡ None) → slice_get entries place ≡ Some None
  nothing_there entries place h = h.1 ∙ ap Some (none_of h.0 h.2)

  module _ (old : Outside) (parts : List PartLine) (planned : List ℕ) (heads : List WavHead) (before after : List Entry) (R : AreRead seen old parts (length parts) heads before) (H : HaveCompared g old parts planned (length parts) before after) where
    -- what was read is there still
    pub read_still : (place : ℕ) (part : PartLine) → slice_get parts place ≡ Some part → written_by part.form ≡ None → HasAt seen after place (IsReadFor old (slice_get heads (source_number parts place)) part.form)
    read_still place part e none =
        let h = R.each place part (slice_get_within parts place part e) e in
        (h.0, H.others place part e none ∙ h.1, h.2)

    read_untold : (place : ℕ) (part : PartLine) → slice_get parts place ≡ Some part → (form : PartForm) → part.form ≡ form → written_by form ≡ None
        → HasAt seen after place (IsReadFor (untelling old) (slice_get heads (source_number parts place)) form)
    read_untold place part e form f none =
        let h = read_still place part e (ap written_by f ∙ none) in
        (h.0, h.1, untold_for old (slice_get heads (source_number parts place)) form (option_map seen h.0) (subst (λ (y : PartForm). IsReadFor old (slice_get heads (source_number parts place)) y (option_map seen h.0)) f h.2))

    open_at : (place : ℕ) (part : PartLine) → slice_get parts place ≡ Some part → (form : PartForm) → part.form ≡ form
        → HasAt seen after place (IsOpenFor (untelling old) (slice_get heads (source_number parts place)) (slice_index_or planned place 0) form)
    open_at place part e (forms.Sink name) f =
        let h = H.sinks place part name (slice_get_within parts place part e) e (ap written_by f) in
        (h.0, h.1, compared_written old (slice_index_or planned place 0) name h.0 h.2)
    open_at place part e (forms.Source name) f = read_untold place part e (forms.Source name) f refl
    open_at place part e (forms.Late name) f = read_untold place part e (forms.Late name) f refl
    open_at place part e forms.Decoder f = read_untold place part e forms.Decoder f refl
    open_at place part e forms.Alaw f = read_untold place part e forms.Alaw f refl
    open_at place part e forms.Mulaw f = read_untold place part e forms.Mulaw f refl
    open_at place part e (forms.Gain gain) f = read_untold place part e (forms.Gain gain) f refl
    open_at place part e (forms.Mixer weights) f = read_untold place part e (forms.Mixer weights) f refl
    open_at place part e (forms.Splitter outputs) f = read_untold place part e (forms.Splitter outputs) f refl

    all_open : AreOpen seen (untelling old) parts planned (length parts) heads after
    all_open = record {
      many = H.many ∙ R.many;
      numbered = R.numbered;
      lawful = R.lawful;
      first = λ place part b e. open_at place part e part.form refl;
      rest = λ place part b e. absurd (let w = slice_get_within parts place part e in omega arith);
    }

    -- the sources alone, where the media tells
    sources_open : AreOpen seen old parts planned 0 heads before
    sources_open = record {
      many = R.many;
      numbered = R.numbered;
      lawful = R.lawful;
      first = λ place part b e. absurd (omega arith);
      rest = λ place part b e. R.each place part (slice_get_within parts place part e) e;
    }

    same_there : (place : ℕ) (part : PartLine) (name : List ℕ) → slice_get parts place ≡ Some part → read_by part.form ≡ Some name → offer_at seen after place ≡ offer_at seen before place
    same_there place part name e r = ap (λ (o : Option Entry). option_map offer (option_and_then (option_map seen) o)) (H.others place part e (writes_not part.form name r))

    told_nothing : (tells : IsTrue old.tells) (place planned : ℕ) (name : List ℕ) (file : Entry) → slice_get after place ≡ Some file → IsComparedBy g old planned name file → known_by (offer_at seen after place) ≡ Some []
    told_nothing tells place planned name (Some (files.To snk frames)) e I =
        let there = some_of (old.file name) ((I.2).there tells) in
        let src : g.told snk.src ≡ Some there.0 = (I.2).told ∙ there.1 in
        let given : told_by (g.told snk.src) snk ≡ Some [] = ap (λ (x : ComparingValue S). told_by (g.told snk.src) x) I.1 ∙ ap (λ (o : Option (List ℕ)). told_by o (untouched snk.src)) src in
        ap (λ (o : Option Entry). known_by (option_map offer (option_and_then (option_map seen) o))) e ∙ given
    told_nothing tells place planned name (Some (files.From src format frames)) e I = absurd I
    told_nothing tells place planned name None e I = absurd I

    pub files_told : IsTrue old.tells → (samples : List (List ℕ)) × AreFiles old parts (play_files seen heads after) samples
    files_told tells =
        let t = sources_told seen old parts planned 0 heads before sources_open tells in (
          t.0,
          record {
            many = R.numbered ∙ ap (count_by is_source_part) (take_all (length parts) parts (omega arith));
            all = t.1;
            sources = λ place name (part, e, r).
                (let I = t.2 place name (part, e, r) in
                let s = same_there place part name e r in
                record {
                  bytes = I.bytes;
                  head = I.head;
                  held = I.held;
                  reads = I.reads;
                  head_is = I.head_is;
                  samples_are = I.samples_are;
                  there = ap there_by s ∙ I.there;
                  known = ap known_by s ∙ I.known;
                });
            sinks = λ place name (part, e, w).
                (let h = H.sinks place part name (slice_get_within parts place part e) e w in
                told_nothing tells place (slice_index_or planned place 0) name h.0 h.1 h.2);
          },
        )

    none_there : (place : ℕ) (part : PartLine) → slice_get parts place ≡ Some part → (form : PartForm) → part.form ≡ form → read_by form ≡ None → written_by form ≡ None → slice_get after place ≡ Some None
    none_there place part e (forms.Source name) f r w = absurd cc
    none_there place part e (forms.Late name) f r w = absurd cc
    none_there place part e (forms.Sink name) f r w = absurd cc
    none_there place part e forms.Decoder f r w = nothing_there after place (read_untold place part e forms.Decoder f refl)
    none_there place part e forms.Alaw f r w = nothing_there after place (read_untold place part e forms.Alaw f refl)
    none_there place part e forms.Mulaw f r w = nothing_there after place (read_untold place part e forms.Mulaw f refl)
    none_there place part e (forms.Gain gain) f r w = nothing_there after place (read_untold place part e (forms.Gain gain) f refl)
    none_there place part e (forms.Mixer weights) f r w = nothing_there after place (read_untold place part e (forms.Mixer weights) f refl)
    none_there place part e (forms.Splitter outputs) f r w = nothing_there after place (read_untold place part e (forms.Splitter outputs) f refl)

  -- ---- all of them

  module _ (script : Script) (old new : Outside) (planned plan : PlanValue) (heads : List WavHead) (entries : List Entry) (is : IsPlanOfScript script planned) (scripted : IsScripted planned) (A : HasComparedAll g old new planned plan heads entries) where
    opened : HasOpenedAll seen (untelling old) (asked_so old (read_names plan.parts ++ written_names plan.parts)) planned plan heads entries
    opened = record {
      fitted = (A.gone).fitted;
      valid = (A.gone).valid;
      fit = (A.gone).fit;
      still = record { goes_on = on; files = refl; reads = refl; writes = refl; absences = refl; unread = refl; failed = refl };
      opened = all_open old plan.parts plan.frames heads (A.gone).before entries (A.gone).read (A.gone).have;
      asked = refl;
    }
      where
        on : GoesOn (untelling old) (asked_so old (read_names plan.parts ++ written_names plan.parts))
        on = record { tells = refl; ends = refl; may_refuse = refl; read_faults = omega arith; write_faults = omega arith; absences = omega arith }

    pub all_compared : AreCompared g script old new plan entries
    all_compared =
        let G = A.gone in
        record {
          planned = planned;
          known = play_files seen heads entries;
          is_plan = is;
          fitted = G.fitted;
          fit = G.fit;
          still = A.still;
          asked = A.asked;
          ready = is_ready seen (untelling old) (asked_so old (read_names plan.parts ++ written_names plan.parts)) planned plan heads entries opened scripted;
          many = (G.have).many ∙ (G.read).many;
          offered = are_offered seen (untelling old) (asked_so old (read_names plan.parts ++ written_names plan.parts)) planned plan heads entries opened scripted;
          files_are = files_told old plan.parts plan.frames heads G.before entries G.read G.have;
          sources = λ place part name e r.
              (let h = read_still old plan.parts plan.frames heads G.before entries G.read G.have place part e (writes_not part.form name r) in
              (h.0, h.1, read_reads old (slice_get heads (source_number plan.parts place)) part.form name (option_map seen h.0) r h.2));
          sinks = λ place part name e w. (G.have).sinks place part name (slice_get_within plan.parts place part e) e w;
          others = λ place part e r w. none_there old plan.parts plan.frames heads G.before entries G.read G.have place part e part.form refl r w;
        }
