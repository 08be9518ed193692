-- A plan whose files are all open is ready.
use Rattle.std.proofs.Common.{◌≡◌, ℕ, zero, suc, add-one, ◌+◌, ◌-◌, ◌*◌, ◌<◌, ◌≤◌, true, List, [], ◌∷◌, ◌++◌, length, drop, take, slice_get, Option, Some, None, option_map, IsTrue, inl, inr, refl, sym, ◌∙◌, ap, subst, arith}
use Rattle.std.specs.List.{count_by, slice_index_or}
use Rattle.std.specs.Option.{option_and_then}
use Rattle.std.proofs.lemmas.Bool.{cases_lt}
use Rattle.std.proofs.lemmas.List.{length-append, take_all}
use Rattle.std.proofs.lemmas.List.Sums.{count_by_more_no, count_by_more_yes}
use Rattle.std.proofs.lemmas.Option.{get_or_from_slice_get, slice_get_within}
use Rattle.omx_types.specs.Formats.{frame_bytes_of}
use Rattle.outside_io.specs.Files.{Outside}
use Rattle.part_forms.specs.Kinds.{is_source}
use Rattle.il_machine.specs.Files.{Offered, OfferedFrom, OfferedTo}
use Rattle.wav_form.specs.Reading.{FitsFile}
use Rattle.wav_form.specs.declared.heads.WavHead.{WavHead}
use Rattle.script_lang.specs.declared.play_line.PartForm.{PartForm}
use Rattle.script_lang.specs.declared.play_line.PartForm.TheVariants as forms
use Rattle.script_lang.specs.declared.play_line.PartLine.{PartLine}
use Rattle.play_forms.specs.declared.joint.Joint.{Joint}
use Rattle.play_forms.specs.Flows.{AreFlows, AreFrames}
use Rattle.play_forms.specs.Parts.{is_source_part, kind_of, source_number}
use Rattle.play_forms.specs.Plans.{PlanValue}
use Rattle.play_plan_laws.specs.Limits.{IsScripted}
use Rattle.play_plan_laws.proofs.Scripts.{fitted_scripted}
use Rattle.play_build_laws.proofs.Places.{get_there}
use Rattle.play_plan_laws.specs.Assemblies.{IsReady, PlayFiles, file_at, file_of, kind_in}
use Rattle.play_result_laws.specs.Files.{AreFiles, IsReadAs, IsReader, read_by, written_by}
use Rattle.play_files.specs.Opening.{AreOpen, HasAt, IsOpenFor, IsReadBy, IsReadFor, IsSinkOf, IsSourceOf, IsWrittenBy}
use Rattle.play_files.specs.Seen.{FileSeen, Reads, SinkSeen, SourceSeen, Writes, offer}
use Rattle.play_files.specs.Stopping.{HasOpenedAll}
use Rattle.machine_laws.proofs.Every.{push_there}
use Rattle.play_files.proofs.Lists.{put_behind}
use Rattle.play_files.proofs.Reading.{form_reads, form_reads_not}
use Rattle.play_files.specs.Whole.{known_by, offer_at, play_files, there_by}

-- ---- the file of a component by its form

pub open_reads : (old : Outside) (held : Option WavHead) (planned : ℕ) (form : PartForm) (name : List ℕ) (file : Option FileSeen) → read_by form ≡ Some name → IsOpenFor old held planned form file → IsReadBy old held name file
open_reads old held planned (forms.Source f) name file e o = let s : f ≡ name = cc in subst (λ (n : List ℕ). IsReadBy old held n file) s o
open_reads old held planned (forms.Late f) name file e o = let s : f ≡ name = cc in subst (λ (n : List ℕ). IsReadBy old held n file) s o
open_reads old held planned forms.Decoder name file e o = absurd cc
open_reads old held planned forms.Alaw name file e o = absurd cc
open_reads old held planned forms.Mulaw name file e o = absurd cc
open_reads old held planned (forms.Gain gain) name file e o = absurd cc
open_reads old held planned (forms.Mixer weights) name file e o = absurd cc
open_reads old held planned (forms.Splitter outputs) name file e o = absurd cc
open_reads old held planned (forms.Sink f) name file e o = absurd cc

pub open_writes : (old : Outside) (held : Option WavHead) (planned : ℕ) (form : PartForm) (name : List ℕ) (file : Option FileSeen) → written_by form ≡ Some name → IsOpenFor old held planned form file → IsWrittenBy old planned name file
open_writes old held planned (forms.Sink f) name file e o = let s : f ≡ name = cc in subst (λ (n : List ℕ). IsWrittenBy old planned n file) s o
open_writes old held planned (forms.Source f) name file e o = absurd cc
open_writes old held planned (forms.Late f) name file e o = absurd cc
open_writes old held planned forms.Decoder name file e o = absurd cc
open_writes old held planned forms.Alaw name file e o = absurd cc
open_writes old held planned forms.Mulaw name file e o = absurd cc
open_writes old held planned (forms.Gain gain) name file e o = absurd cc
open_writes old held planned (forms.Mixer weights) name file e o = absurd cc
open_writes old held planned (forms.Splitter outputs) name file e o = absurd cc

-- a source reads a file of a name
source_name : (form : PartForm) → is_source (kind_of form) ≡ true → (name : List ℕ) × (read_by form ≡ Some name)
source_name (forms.Source f) e = (f, refl)
source_name (forms.Late f) e = (f, refl)
source_name forms.Decoder e = absurd cc
source_name forms.Alaw e = absurd cc
source_name forms.Mulaw e = absurd cc
source_name (forms.Gain gain) e = absurd cc
source_name (forms.Mixer weights) e = absurd cc
source_name (forms.Splitter outputs) e = absurd cc
source_name (forms.Sink f) e = absurd cc

-- what the machine is offered of it
read_offered : (old : Outside) (held : Option WavHead) (name : List ℕ) (file : Option FileSeen) → IsReadBy old held name file
    → (head : WavHead) × (source : SourceSeen) × (held ≡ Some head) × IsSourceOf old name head source × (option_map offer file ≡ Some (OfferedFrom head.format head.frames (source.size - source.offset) (option_map (drop source.offset) source.told)))
read_offered old held name (Some (Reads source format frames)) r = (r.0, source, r.1, r.4, rw (r.2, r.3) refl)
read_offered old held name (Some (Writes sink frames)) r = absurd r
read_offered old held name None r = absurd r

written_offered : (old : Outside) (planned : ℕ) (name : List ℕ) (file : Option FileSeen) → IsWrittenBy old planned name file
    → (sink : SinkSeen) × IsSinkOf old name sink × (option_map offer file ≡ Some (OfferedTo planned sink.told))
written_offered old planned name (Some (Writes sink frames)) w = (sink, w.1, rw w.0 refl)
written_offered old planned name (Some (Reads source format frames)) w = absurd w
written_offered old planned name None w = absurd w

-- what the assembly asks for at its place is that
offer_read : (form : PartForm) (held : Option WavHead) (name : List ℕ) (frames there : ℕ) (known : Option (List ℕ)) (head : WavHead) → read_by form ≡ Some name → held ≡ Some head
    → file_of (kind_of form) held frames there known ≡ Some (OfferedFrom head.format head.frames there known)
offer_read (forms.Source f) held name frames there known head e h = rw h refl
offer_read (forms.Late f) held name frames there known head e h = rw h refl
offer_read forms.Decoder held name frames there known head e h = absurd cc
offer_read forms.Alaw held name frames there known head e h = absurd cc
offer_read forms.Mulaw held name frames there known head e h = absurd cc
offer_read (forms.Gain gain) held name frames there known head e h = absurd cc
offer_read (forms.Mixer weights) held name frames there known head e h = absurd cc
offer_read (forms.Splitter outputs) held name frames there known head e h = absurd cc
offer_read (forms.Sink f) held name frames there known head e h = absurd cc

-- by the form of the component at the place, whatever it is
offer_of_form : (old : Outside) (held : Option WavHead) (planned : ℕ) (form : PartForm) (file : Option FileSeen) → IsOpenFor old held planned form file
    → option_map offer file ≡ file_of (kind_of form) held planned (there_by (option_map offer file)) (known_by (option_map offer file))
offer_of_form old held planned (forms.Source f) file o =
    let r = read_offered old held f file o in rw r.4 (sym (offer_read (forms.Source f) held f planned _ _ r.0 refl r.2))
offer_of_form old held planned (forms.Late f) file o =
    let r = read_offered old held f file o in rw r.4 (sym (offer_read (forms.Late f) held f planned _ _ r.0 refl r.2))
offer_of_form old held planned (forms.Sink f) file o = let w = written_offered old planned f file o in rw w.2 refl
offer_of_form old held planned forms.Decoder file o = rw o refl
offer_of_form old held planned forms.Alaw file o = rw o refl
offer_of_form old held planned forms.Mulaw file o = rw o refl
offer_of_form old held planned (forms.Gain gain) file o = rw o refl
offer_of_form old held planned (forms.Mixer weights) file o = rw o refl
offer_of_form old held planned (forms.Splitter outputs) file o = rw o refl

-- ---- a value for each source

-- the samples that a file tells
abbrev sample_by : Option Offered → List ℕ
sample_by (Some (OfferedFrom format frames there (Some known))) = take (frames * frame_bytes_of format) known
sample_by other = []

module _ (parts : List PartLine) (value : ℕ → List ℕ) where
  record AreValues (count : ℕ) (values : List (List ℕ)) : Type 0 where
    many : length values ≡ source_number parts count
    each : (place : ℕ) (part : PartLine) (name : List ℕ) → place < count → slice_get parts place ≡ Some part → read_by part.form ≡ Some name → slice_get values (source_number parts place) ≡ Some (value place)

  grow : (count : ℕ) (values : List (List ℕ)) (part : PartLine) → slice_get parts count ≡ Some part → AreValues count values → (o : Option (List ℕ)) → read_by part.form ≡ o
      → (more : List (List ℕ)) × AreValues (count + 1) more
  grow count values part there V None r = (
    values,
    record {
      many = V.many ∙ sym (count_by_more_no is_source_part parts count part (slice_get_within parts count part there) (ap is_source_part (get_or_from_slice_get parts count part part there) ∙ form_reads_not part.form r));
      each = λ place other name b e n. elim (cases_lt place count) [
        | inl lt ↦ V.each place other name lt e n
        | inr le ↦ let s : place ≡ count = omega arith in let o : Some other ≡ Some part = sym e ∙ (ap (λ (k : ℕ). slice_get parts k) s ∙ there) in let same : other ≡ part = cc in
            let z : Some name ≡ None = sym n ∙ (ap (λ (y : PartLine). read_by y.form) same ∙ r) in absurd cc
      ];
    },
  )
  grow count values part there V (Some name) r = (
    values ++ value count ∷ [],
    record {
      many = length-append values (value count ∷ []) ∙ (let m = V.many in let y = count_by_more_yes is_source_part parts count part (slice_get_within parts count part there) (ap is_source_part (get_or_from_slice_get parts count part part there) ∙ form_reads part.form name r) in omega arith);
      each = λ place other its b e n. elim (cases_lt place count) [
        | inl lt ↦ push_there values (source_number parts place) (value count) (value place) (V.each place other its lt e n)
        | inr le ↦ let s : place ≡ count = omega arith in
            put_behind values (value count) (source_number parts place) (ap (source_number parts) s ∙ sym V.many) ∙ ap (λ (k : ℕ). Some (value k)) (sym s)
      ];
    },
  )

  up_to : (count : ℕ) → count ≤ length parts → (values : List (List ℕ)) × AreValues count values
  up_to zero b = ([], record { many = refl; each = λ place part name l e r. absurd (omega arith) })
  up_to (suc count) b =
      let before = up_to count (omega arith) in
      let p = get_there parts count (omega arith) in
      let more = grow count before.0 p.0 p.1 before.1 (read_by (p.0).form) refl in
      (more.0, subst (λ (n : ℕ). AreValues n more.0) (add-one count) more.1)

  grown : (count : ℕ) → count ≤ length parts
      → (values : List (List ℕ)) × (length values ≡ source_number parts count)
      × ((place : ℕ) (part : PartLine) (name : List ℕ) → place < count → slice_get parts place ≡ Some part → read_by part.form ≡ Some name → slice_get values (source_number parts place) ≡ Some (value place))
  grown count b = let g = up_to count b in (g.0, (g.1).many, (g.1).each)

-- ---- sources that are open

same_file : {F : Type 0} (a b : Option F) → Some a ≡ Some b → a ≡ b
same_file a b e = cc

pub read_reads : (old : Outside) (held : Option WavHead) (form : PartForm) (name : List ℕ) (file : Option FileSeen) → read_by form ≡ Some name → IsReadFor old held form file → IsReadBy old held name file
read_reads old held (forms.Source f) name file e o = let s : f ≡ name = cc in subst (λ (n : List ℕ). IsReadBy old held n file) s o
read_reads old held (forms.Late f) name file e o = let s : f ≡ name = cc in subst (λ (n : List ℕ). IsReadBy old held n file) s o
read_reads old held forms.Decoder name file e o = absurd cc
read_reads old held forms.Alaw name file e o = absurd cc
read_reads old held forms.Mulaw name file e o = absurd cc
read_reads old held (forms.Gain gain) name file e o = absurd cc
read_reads old held (forms.Mixer weights) name file e o = absurd cc
read_reads old held (forms.Splitter outputs) name file e o = absurd cc
read_reads old held (forms.Sink f) name file e o = absurd cc

writes_not : (form : PartForm) (name : List ℕ) → read_by form ≡ Some name → written_by form ≡ None
writes_not (forms.Source f) name e = refl
writes_not (forms.Late f) name e = refl
writes_not (forms.Sink f) name e = absurd cc
writes_not forms.Decoder name e = absurd cc
writes_not forms.Alaw name e = absurd cc
writes_not forms.Mulaw name e = absurd cc
writes_not (forms.Gain gain) name e = absurd cc
writes_not (forms.Mixer weights) name e = absurd cc
writes_not (forms.Splitter outputs) name e = absurd cc

-- what a file tells, where a sink that isn't open yet has a new one
abbrev pub known_for : Option (List ℕ) → Option (List ℕ) → Option (List ℕ)
known_for None known = known
known_for (Some name) known = Some []

abbrev pub known_in : Option PartLine → Option (List ℕ) → Option (List ℕ)
known_in None known = known
known_in (Some part) known = known_for (written_by part.form) known

abbrev pub left_files : {F : Type 0} → (F → FileSeen) → List PartLine → List WavHead → List (Option F) → PlayFiles
left_files seen parts heads entries =
    record { heads = heads; there = (play_files seen heads entries).there; known = λ place. known_in (slice_get parts place) (known_by (offer_at seen entries place)) }

module _ {F : Type 0} (seen : F → FileSeen) (old : Outside) (parts : List PartLine) (planned : List ℕ) (count : ℕ) (heads : List WavHead) (entries : List (Option F)) (O : AreOpen seen old parts planned count heads entries) where
  offer_here : (place : ℕ) (file : Option F) → slice_get entries place ≡ Some file → offer_at seen entries place ≡ option_map offer (option_map seen file)
  offer_here place file e = ap (λ (o : Option (Option F)). option_map offer (option_and_then (option_map seen) o)) e

  reader_here : (place : ℕ) (part : PartLine) (name : List ℕ) → slice_get parts place ≡ Some part → read_by part.form ≡ Some name → HasAt seen entries place (IsReadBy old (slice_get heads (source_number parts place)) name)
  reader_here place part name e r = elim (cases_lt place count) [
    | inl lt ↦ let h = O.first place part lt e in (h.0, h.1, open_reads old (slice_get heads (source_number parts place)) (slice_index_or planned place 0) part.form name (option_map seen h.0) r h.2)
    | inr le ↦ let h = O.rest place part le e in (h.0, h.1, read_reads old (slice_get heads (source_number parts place)) part.form name (option_map seen h.0) r h.2)
  ]

  -- the source at the place
  source_here : (place : ℕ) (part : PartLine) (name : List ℕ) → slice_get parts place ≡ Some part → read_by part.form ≡ Some name
      → (head : WavHead) × (source : SourceSeen) × (slice_get heads (source_number parts place) ≡ Some head) × IsSourceOf old name head source
      × (offer_at seen entries place ≡ Some (OfferedFrom head.format head.frames (source.size - source.offset) (option_map (drop source.offset) source.told)))
  source_here place part name e r =
      let h = reader_here place part name e r in
      let o = read_offered old (slice_get heads (source_number parts place)) name (option_map seen h.0) h.2 in
      (o.0, o.1, o.2, o.3, offer_here place h.0 h.1 ∙ o.4)

  all_sources : length heads ≡ count_by is_source_part parts
  all_sources = O.numbered ∙ ap (count_by is_source_part) (take_all (length parts) parts (omega arith))

  samples_there : (tells : IsTrue old.tells) (samples : List (List ℕ)) (place : ℕ) (part : PartLine) (name : List ℕ) → slice_get parts place ≡ Some part → read_by part.form ≡ Some name
      → slice_get samples (source_number parts place) ≡ Some (sample_by (offer_at seen entries place)) → IsReadAs old place (source_number parts place) name (play_files seen heads entries) samples
  samples_there tells samples place part name e r s =
      let o = source_here place part name e r in
      let head = o.0 in
      let source = o.1 in
      let I = o.3 in
      let h = I.head_is tells in
      let told : source.told ≡ Some h.0 = I.told ∙ h.1 in
      let known : option_map (drop source.offset) source.told ≡ Some (drop head.start h.0) = ap (option_map (drop source.offset)) told ∙ ap (λ (n : ℕ). Some (drop n h.0)) I.offset in
      let offered : offer_at seen entries place ≡ Some (OfferedFrom head.format head.frames (source.size - source.offset) (Some (drop head.start h.0))) =
      o.4 ∙ ap (λ (k : Option (List ℕ)). Some (OfferedFrom head.format head.frames (source.size - source.offset) k)) known in
      record {
        bytes = h.0;
        head = head;
        held = h.1;
        reads = h.2;
        head_is = o.2;
        samples_are = s ∙ ap (λ (u : Option Offered). Some (sample_by u)) offered;
        there = ap there_by offered ∙ (let z = I.whole h.0 h.1 in let f = I.offset in omega arith);
        known = ap known_by offered;
      }

  -- what is told of the sources
  pub sources_told : IsTrue old.tells → (samples : List (List ℕ)) × (length samples ≡ count_by is_source_part parts)
      × ((place : ℕ) (name : List ℕ) → IsReader parts place name → IsReadAs old place (source_number parts place) name (play_files seen heads entries) samples)
  sources_told tells =
      let g = grown parts (λ place. sample_by (offer_at seen entries place)) (length parts) (omega arith) in (
        g.0,
        g.1 ∙ ap (count_by is_source_part) (take_all (length parts) parts (omega arith)),
        λ place name (part, e, r). samples_there tells g.0 place part name e r (g.2 place part name (slice_get_within parts place part e) e r),
      )

  -- with new files for the sinks that aren't open
  pub left_told : IsTrue old.tells → (samples : List (List ℕ)) × AreFiles old parts (left_files seen parts heads entries) samples
  left_told tells =
      let g = sources_told tells in (
        g.0,
        record {
          many = all_sources;
          all = g.1;
          sources = λ place name (part, e, r).
              (let R = g.2 place name (part, e, r) in
              record {
                bytes = R.bytes;
                head = R.head;
                held = R.held;
                reads = R.reads;
                head_is = R.head_is;
                samples_are = R.samples_are;
                there = R.there;
                known = ap (λ (o : Option PartLine). known_in o (known_by (offer_at seen entries place))) e ∙ (ap (λ (w : Option (List ℕ)). known_for w (known_by (offer_at seen entries place))) (writes_not part.form name r) ∙ R.known);
              });
          sinks = λ place name (part, e, w).
              ap (λ (o : Option PartLine). known_in o (known_by (offer_at seen entries place))) e ∙ ap (λ (w : Option (List ℕ)). known_for w (known_by (offer_at seen entries place))) w;
        },
      )

-- ---- all of them

module _ {F : Type 0} (seen : F → FileSeen) (old new : Outside) (planned plan : PlanValue) (heads : List WavHead) (entries : List (Option F)) (W : HasOpenedAll seen old new planned plan heads entries) (S : IsScripted planned) where
  here : (place : ℕ) (part : PartLine) → slice_get plan.parts place ≡ Some part → HasAt seen entries place (IsOpenFor old (slice_get heads (source_number plan.parts place)) (slice_index_or plan.frames place 0) part.form)
  here place part e = (W.opened).first place part (slice_get_within plan.parts place part e) e

  bytes_there : (place : ℕ) (part : PartLine) (head : WavHead) → slice_get plan.parts place ≡ Some part → is_source (kind_of part.form) ≡ true
      → slice_get heads (source_number plan.parts place) ≡ Some head → head.frames * frame_bytes_of head.format ≤ (play_files seen heads entries).there place
  bytes_there place part head e s h =
      let n = source_name part.form s in
      let o = source_here seen old plan.parts plan.frames (length plan.parts) heads entries W.opened place part n.0 e n.1 in
      let same : Some o.0 ≡ Some head = sym o.2 ∙ h in
      let is : o.0 ≡ head = cc in
      let there : (play_files seen heads entries).there place ≡ (o.1).size - (o.1).offset = ap there_by o.4 in
      let f : FitsFile head (o.1).size = subst (λ (y : WavHead). FitsFile y (o.1).size) is (o.3).fits in
      let at : (o.1).offset ≡ head.start = (o.3).offset ∙ ap (λ (y : WavHead). y.start) is in
      let w = f.within in
      omega arith

  flows_are : AreFlows plan.parts plan.joints heads plan.flows
  flows_are =
      subst (λ (ps : List PartLine). AreFlows ps plan.joints heads plan.flows) (sym (W.fitted).parts)
      (subst (λ (js : List Joint). AreFlows planned.parts js heads plan.flows) (sym (W.fitted).joints) (W.fitted).flows)

  frames_are : AreFrames plan.parts plan.joints heads plan.flows plan.frames
  frames_are =
      subst (λ (ps : List PartLine). AreFrames ps plan.joints heads plan.flows plan.frames) (sym (W.fitted).parts)
      (subst (λ (js : List Joint). AreFrames planned.parts js heads plan.flows plan.frames) (sym (W.fitted).joints) (W.fitted).frames)

  pub is_ready : IsReady plan (play_files seen heads entries)
  is_ready = record {
    valid = W.valid;
    flows = flows_are;
    frames = frames_are;
    fit = W.fit;
    scripted = fitted_scripted planned plan heads S W.fitted;
    heads_are = record {
      many = (let a = all_sources seen old plan.parts plan.frames (length plan.parts) heads entries W.opened in omega arith);
      each = λ k head e. (let l = (W.opened).lawful k head e in record { format = (l.1).format; bytes = (l.1).bytes });
    };
    bytes = bytes_there;
  }

  pub are_offered : (place : ℕ) (file : Option F) → slice_get entries place ≡ Some file → option_map offer (option_map seen file) ≡ file_at plan (play_files seen heads entries) place
  are_offered place file e =
      let many = (W.opened).many in
      let b = slice_get_within entries place file e in
      let p = get_there plan.parts place (omega arith) in
      let h = here place p.0 p.1 in
      let same = same_file h.0 file (sym h.1 ∙ e) in
      let held = slice_get heads (source_number plan.parts place) in
      let frames = slice_index_or plan.frames place 0 in
      let o = offer_of_form old held frames (p.0).form (option_map seen file) (subst (λ (f : Option F). IsOpenFor old held frames (p.0).form (option_map seen f)) same h.2) in
      o
      ∙ sym (ap (λ (q : Option PartLine). file_of (kind_in q) held frames (there_by (offer_at seen entries place)) (known_by (offer_at seen entries place))) p.1
      ∙ ap (λ (u : Option Offered). file_of (kind_of (p.0).form) held frames (there_by u) (known_by u)) (offer_here seen old plan.parts plan.frames (length plan.parts) heads entries W.opened place file e))

  pub are_files : IsTrue old.tells → (samples : List (List ℕ)) × AreFiles old plan.parts (play_files seen heads entries) samples
  are_files tells =
      let g = sources_told seen old plan.parts plan.frames (length plan.parts) heads entries W.opened tells in (
        g.0,
        record {
          many = all_sources seen old plan.parts plan.frames (length plan.parts) heads entries W.opened;
          all = g.1;
          sources = g.2;
          sinks = λ place name (part, e, w).
              (let h = here place part e in
              let o = written_offered old (slice_index_or plan.frames place 0) name (option_map seen h.0) (open_writes old (slice_get heads (source_number plan.parts place)) (slice_index_or plan.frames place 0) part.form name (option_map seen h.0) w h.2) in
              ap known_by (offer_here seen old plan.parts plan.frames (length plan.parts) heads entries W.opened place h.0 h.1 ∙ o.2) ∙ (o.1).told tells);
        },
      )
