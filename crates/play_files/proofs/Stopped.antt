-- The opening of files stopped, and those that were open are closed.
use Rattle.std.proofs.Common.{◌≡◌, ◌⊎◌, ℕ, zero, suc, ◌<◌, ◌≤◌, List, [], ◌∷◌, length, take, slice_get, Option, Some, None, option_map, Result, IsTrue, inl, inr, refl, sym, ◌∙◌, ap, subst, arith}
use Rattle.std.specs.List.{slice_index_or, sum_by}
use Rattle.std.proofs.lemmas.Bool.{cases_lt}
use Rattle.std.proofs.lemmas.List.{length-map}
use Rattle.std.proofs.lemmas.List.Sums.{sum_by-cons}
use Rattle.std.proofs.lemmas.Option.{slice_get_within}
use Rattle.omx_types.specs.declared.format.Format.{Format}
use Rattle.omx_types.specs.declared.fault.Fault.{Fault}
use Rattle.omx_types.specs.declared.fault.Fault.TheVariants as Faults
use Rattle.outside_io.specs.Files.{GoesOn, Outside}
use Rattle.outside_io.specs.declared.source.Failed.{Failed}
use Rattle.wav_form.specs.declared.heads.WavHead.{WavHead}
use Rattle.script_lang.specs.declared.play_line.PartForm.{PartForm}
use Rattle.script_lang.specs.declared.play_line.PartForm.TheVariants as forms
use Rattle.script_lang.specs.declared.play_line.PartLine.{PartLine}
use Rattle.stream_plan.proofs.Lists.{slice_get_mapped}
use Rattle.play_build_laws.proofs.Places.{get_there}
use Rattle.play_forms.specs.Parts.{source_number}
use Rattle.play_result_laws.specs.Files.{IsWriter, read_by, written_by}
use Rattle.play_files.specs.Closing.{AreNamedApart, AreClosed, IsSinkAt, failed_reads}
use Rattle.play_files.specs.Left.{AreEmptied, HaveHeads}
use Rattle.play_files.specs.Names.{HaveOwnFiles}
use Rattle.play_files.specs.Opening.{AreOpen, AreRead, HasAt, HasHead, IsOpenFor, IsReadBy, IsReadFor, IsSinkFault, IsSourceFault, IsSourceOf, IsSourceRefused, IsSinkOf, IsStill, IsWrittenBy}
use Rattle.play_files.specs.Seen.{FileSeen, Reads, SinkSeen, SourceSeen, Writes, files_seen}
use Rattle.play_files.proofs.Closings.{then, unread_names}
use Rattle.play_files.proofs.Fronts.{failed_sooner, sooner}
use Rattle.play_files.proofs.Ready.{open_writes, read_reads}

-- ---- files by what is seen of them

read_calm : (old : Outside) (held : Option WavHead) (form : PartForm) (file : Option FileSeen) → IsReadFor old held form file → failed_reads file ≡ 0
read_calm old held (forms.Source name) (Some (Reads source format frames)) r = (r.4).faults
read_calm old held (forms.Source name) (Some (Writes sink frames)) r = refl
read_calm old held (forms.Source name) None r = refl
read_calm old held (forms.Late name) (Some (Reads source format frames)) r = (r.4).faults
read_calm old held (forms.Late name) (Some (Writes sink frames)) r = refl
read_calm old held (forms.Late name) None r = refl
read_calm old held forms.Decoder file r = rw r refl
read_calm old held forms.Alaw file r = rw r refl
read_calm old held forms.Mulaw file r = rw r refl
read_calm old held (forms.Gain gain) file r = rw r refl
read_calm old held (forms.Mixer weights) file r = rw r refl
read_calm old held (forms.Splitter outputs) file r = rw r refl
read_calm old held (forms.Sink name) file r = rw r refl

open_calm : (old : Outside) (held : Option WavHead) (planned : ℕ) (form : PartForm) (file : Option FileSeen) → IsOpenFor old held planned form file → failed_reads file ≡ 0
open_calm old held planned (forms.Sink name) (Some (Writes sink frames)) o = refl
open_calm old held planned (forms.Sink name) (Some (Reads source format frames)) o = absurd o
open_calm old held planned (forms.Sink name) None o = refl
open_calm old held planned (forms.Source name) file o = read_calm old held (forms.Source name) file o
open_calm old held planned (forms.Late name) file o = read_calm old held (forms.Late name) file o
open_calm old held planned forms.Decoder file o = read_calm old held forms.Decoder file o
open_calm old held planned forms.Alaw file o = read_calm old held forms.Alaw file o
open_calm old held planned forms.Mulaw file o = read_calm old held forms.Mulaw file o
open_calm old held planned (forms.Gain gain) file o = read_calm old held (forms.Gain gain) file o
open_calm old held planned (forms.Mixer weights) file o = read_calm old held (forms.Mixer weights) file o
open_calm old held planned (forms.Splitter outputs) file o = read_calm old held (forms.Splitter outputs) file o

-- what is read is no sink
read_no_sink : (old : Outside) (held : Option WavHead) (form : PartForm) (sink : SinkSeen) (frames : ℕ) → IsReadFor old held form (Some (Writes sink frames)) → ⊥
read_no_sink old held (forms.Source name) sink frames r = r
read_no_sink old held (forms.Late name) sink frames r = r
read_no_sink old held forms.Decoder sink frames r = absurd cc
read_no_sink old held forms.Alaw sink frames r = absurd cc
read_no_sink old held forms.Mulaw sink frames r = absurd cc
read_no_sink old held (forms.Gain gain) sink frames r = absurd cc
read_no_sink old held (forms.Mixer weights) sink frames r = absurd cc
read_no_sink old held (forms.Splitter outputs) sink frames r = absurd cc
read_no_sink old held (forms.Sink name) sink frames r = absurd cc

-- an open sink is that of a component that writes
open_sink_is : (old : Outside) (held : Option WavHead) (planned : ℕ) (form : PartForm) (sink : SinkSeen) (frames : ℕ) → IsOpenFor old held planned form (Some (Writes sink frames))
    → (name : List ℕ) × (written_by form ≡ Some name) × IsSinkOf old name sink
open_sink_is old held planned (forms.Sink name) sink frames o = (name, refl, o.1)
open_sink_is old held planned (forms.Source name) sink frames o = absurd o
open_sink_is old held planned (forms.Late name) sink frames o = absurd o
open_sink_is old held planned forms.Decoder sink frames o = absurd cc
open_sink_is old held planned forms.Alaw sink frames o = absurd cc
open_sink_is old held planned forms.Mulaw sink frames o = absurd cc
open_sink_is old held planned (forms.Gain gain) sink frames o = absurd cc
open_sink_is old held planned (forms.Mixer weights) sink frames o = absurd cc
open_sink_is old held planned (forms.Splitter outputs) sink frames o = absurd cc

-- an open source is that of a component that reads
read_source_is : (old : Outside) (held : Option WavHead) (form : PartForm) (source : SourceSeen) (format : Format) (frames : ℕ) → IsReadFor old held form (Some (Reads source format frames))
    → (name : List ℕ) × (read_by form ≡ Some name) × ((head : WavHead) × IsSourceOf old name head source)
read_source_is old held (forms.Source name) source format frames r = (name, refl, (r.0, r.4))
read_source_is old held (forms.Late name) source format frames r = (name, refl, (r.0, r.4))
read_source_is old held forms.Decoder source format frames r = absurd cc
read_source_is old held forms.Alaw source format frames r = absurd cc
read_source_is old held forms.Mulaw source format frames r = absurd cc
read_source_is old held (forms.Gain gain) source format frames r = absurd cc
read_source_is old held (forms.Mixer weights) source format frames r = absurd cc
read_source_is old held (forms.Splitter outputs) source format frames r = absurd cc
read_source_is old held (forms.Sink name) source format frames r = absurd cc

open_source_is : (old : Outside) (held : Option WavHead) (planned : ℕ) (form : PartForm) (source : SourceSeen) (format : Format) (frames : ℕ) → IsOpenFor old held planned form (Some (Reads source format frames))
    → (name : List ℕ) × (read_by form ≡ Some name) × ((head : WavHead) × IsSourceOf old name head source)
open_source_is old held planned (forms.Source name) source format frames o = (name, refl, (o.0, o.4))
open_source_is old held planned (forms.Late name) source format frames o = (name, refl, (o.0, o.4))
open_source_is old held planned forms.Decoder source format frames o = absurd cc
open_source_is old held planned forms.Alaw source format frames o = absurd cc
open_source_is old held planned forms.Mulaw source format frames o = absurd cc
open_source_is old held planned (forms.Gain gain) source format frames o = absurd cc
open_source_is old held planned (forms.Mixer weights) source format frames o = absurd cc
open_source_is old held planned (forms.Splitter outputs) source format frames o = absurd cc
open_source_is old held planned (forms.Sink name) source format frames o = absurd o

-- the sink of a component that writes
sink_of : (old : Outside) (planned : ℕ) (name : List ℕ) (file : Option FileSeen) → IsWrittenBy old planned name file → (sink : SinkSeen) × (frames : ℕ) × (file ≡ Some (Writes sink frames)) × IsSinkOf old name sink
sink_of old planned name (Some (Writes sink frames)) w = (sink, frames, refl, w.1)
sink_of old planned name (Some (Reads source format frames)) w = absurd w
sink_of old planned name None w = absurd w

take_none : (k : ℕ) (xs : List ℕ) → xs ≡ [] → take k xs ≡ []
take_none zero xs e = refl
take_none (suc k) xs e = rw e refl

-- the head of one that reads
head_of : (old : Outside) (held : Option WavHead) (name : List ℕ) (file : Option FileSeen) → IsReadBy old held name file → IsTrue old.tells → (head : WavHead) × (held ≡ Some head) × HasHead old name head
head_of old held name (Some (Reads source format frames)) q tells = (q.0, q.1, (q.4).head_is tells)
head_of old held name (Some (Writes sink frames)) q tells = absurd q
head_of old held name None q tells = absurd q

-- ---- lists

none_summed : (files : List (Option FileSeen)) → ((place : ℕ) (file : Option FileSeen) → slice_get files place ≡ Some file → failed_reads file ≡ 0) → sum_by failed_reads files ≡ 0
none_summed [] each = refl
none_summed (file ∷ files) each =
    let a = each zero file refl in
    let b = none_summed files (λ place other e. each (suc place) other e) in
    sum_by-cons failed_reads file files ∙ (omega arith)

module _ {F : Type 0} (seen : F → FileSeen) (entries : List (Option F)) where
  -- what is seen at a place is of the file there
  pub unseen_at : (place : ℕ) (file : Option FileSeen) → slice_get (files_seen seen entries) place ≡ Some file → (entry : Option F) × (slice_get entries place ≡ Some entry) × (option_map seen entry ≡ file)
  unseen_at place file e =
      let b = slice_get_within (files_seen seen entries) place file e in
      let n = length-map entries (option_map seen) in
      let p = get_there entries place (omega arith) in
      let s : Some (option_map seen p.0) ≡ Some file = sym (slice_get_mapped (option_map seen) entries place p.0 p.1) ∙ e in
      (p.0, p.1, cc)

  -- at a place that has a file of its own kind
  at_of : (place : ℕ) (P : Option FileSeen → Type 0) (entry : Option F) → slice_get entries place ≡ Some entry → HasAt seen entries place P → P (option_map seen entry)
  at_of place P entry e h = let s : Some h.0 ≡ Some entry = sym h.1 ∙ e in let same : h.0 ≡ entry = cc in subst (λ (f : Option F). P (option_map seen f)) same h.2

  module _ (old : Outside) (parts : List PartLine) (count : ℕ) (heads : List WavHead) (R : AreRead seen old parts count heads entries) (fits : count ≤ length parts) where
    read_here : (place : ℕ) (file : Option FileSeen) → slice_get (files_seen seen entries) place ≡ Some file → (part : PartLine) × IsReadFor old (slice_get heads (source_number parts place)) part.form file
    read_here place file e =
        let u = unseen_at place file e in
        let b = slice_get_within entries place u.0 u.1 in
        let m = R.many in
        let p = get_there parts place (omega arith) in
        let r = at_of place (IsReadFor old (slice_get heads (source_number parts place)) (p.0).form) u.0 u.1 (R.each place p.0 (omega arith) p.1) in
        (p.0, subst (IsReadFor old (slice_get heads (source_number parts place)) (p.0).form) u.2 r)

    -- sources that were opened are closed, and that leaves all as it was
    pub sources_closed : (mid new : Outside) (result : Result (Unit {0}) Failed) → AreClosed (files_seen seen entries) mid new result → IsStill mid new
    sources_closed mid new result C =
        let none = C.unwritten (λ place sink at. (let r = read_here place (Some (Writes sink at.0)) at.1 in read_no_sink old _ (r.0).form sink at.0 r.1)) in
        let calm = none_summed (files_seen seen entries) (λ place file e. (let r = read_here place file e in read_calm old _ (r.0).form file r.1)) in
        record {
          goes_on = C.goes_on;
          files = none.0;
          reads = C.unread calm;
          writes = none.1;
          absences = C.absences;
          unread = unread_names (files_seen seen entries) mid.failed_reads new.failed_reads calm C.named_reads;
          failed = none.2;
        }

    pub have_heads : HaveHeads old parts count heads
    have_heads tells place name b (part, e, r) =
        let h = R.each place part b e in
        head_of old (slice_get heads (source_number parts place)) name (option_map seen h.0) (read_reads old (slice_get heads (source_number parts place)) part.form name (option_map seen h.0) r h.2) tells

  module _ (old : Outside) (parts : List PartLine) (planned : List ℕ) (count : ℕ) (heads : List WavHead) (O : AreOpen seen old parts planned count heads entries) where
    open_here : (place : ℕ) (file : Option FileSeen) → slice_get (files_seen seen entries) place ≡ Some file
        → (part : PartLine) × (slice_get parts place ≡ Some part)
        × ((place < count) × IsOpenFor old (slice_get heads (source_number parts place)) (slice_index_or planned place 0) part.form file ⊎ IsReadFor old (slice_get heads (source_number parts place)) part.form file)
    open_here place file e =
        let u = unseen_at place file e in
        let b = slice_get_within entries place u.0 u.1 in
        let m = O.many in
        let p = get_there parts place (omega arith) in (
          p.0,
          p.1,
          elim (cases_lt place count) [
            | inl lt ↦ inl (
              lt,
              subst (IsOpenFor old (slice_get heads (source_number parts place)) (slice_index_or planned place 0) (p.0).form) u.2
                  (at_of place (IsOpenFor old (slice_get heads (source_number parts place)) (slice_index_or planned place 0) (p.0).form) u.0 u.1 (O.first place p.0 lt p.1)),
            )
            | inr le ↦ inr (subst (IsReadFor old (slice_get heads (source_number parts place)) (p.0).form) u.2 (at_of place (IsReadFor old (slice_get heads (source_number parts place)) (p.0).form) u.0 u.1 (O.rest place p.0 le p.1)))
          ],
        )

    -- a sink that is open is that of its component
    pub sink_here : (place : ℕ) (sink : SinkSeen) → IsSinkAt (files_seen seen entries) place sink → (place < count) × ((name : List ℕ) × IsWriter parts place name × IsSinkOf old name sink)
    sink_here place sink (frames, at) =
        let h = open_here place (Some (Writes sink frames)) at in
        elim h.2 [
          | inl o ↦ let s = open_sink_is old _ _ (h.0).form sink frames o.1 in (o.0, (s.0, (h.0, h.1, s.1), s.2))
          | inr r ↦ absurd (read_no_sink old _ (h.0).form sink frames r)
        ]

    -- so is a source
    pub source_here : (place : ℕ) (source : SourceSeen) (format : Format) (frames : ℕ) → slice_get (files_seen seen entries) place ≡ Some (Some (Reads source format frames))
        → (part : PartLine) × (slice_get parts place ≡ Some part) × ((name : List ℕ) × (read_by part.form ≡ Some name) × ((head : WavHead) × IsSourceOf old name head source))
    source_here place source format frames at =
        let h = open_here place (Some (Reads source format frames)) at in
        (h.0, h.1, elim h.2 [ inl o ↦ open_source_is old _ _ (h.0).form source format frames o.1 | inr r ↦ read_source_is old _ (h.0).form source format frames r ])

    calm_here : (place : ℕ) (file : Option FileSeen) → slice_get (files_seen seen entries) place ≡ Some file → failed_reads file ≡ 0
    calm_here place file e =
        let h = open_here place file e in
        elim h.2 [ inl o ↦ open_calm old _ _ (h.0).form file o.1 | inr r ↦ read_calm old _ (h.0).form file r ]

    pub calm_reads : (mid new : Outside) (result : Result (Unit {0}) Failed) → AreClosed (files_seen seen entries) mid new result → new.read_faults ≡ mid.read_faults
    calm_reads mid new result C = C.unread (none_summed (files_seen seen entries) calm_here)

    pub calm_names : (mid new : Outside) (result : Result (Unit {0}) Failed) → AreClosed (files_seen seen entries) mid new result → new.failed_reads ≡ mid.failed_reads
    calm_names mid new result C = unread_names (files_seen seen entries) mid.failed_reads new.failed_reads (none_summed (files_seen seen entries) calm_here) C.named_reads

    module _ (script log : List ℕ) (own : HaveOwnFiles script log parts) (tells : IsTrue old.tells) where
      pub are_apart : AreNamedApart (files_seen seen entries)
      are_apart place other a b at bt e =
          let x = sink_here place a at in
          let y = sink_here other b bt in
          let na = (x.1.2).name_is tells in
          let nb = (y.1.2).name_is tells in
          own.sinks place other x.1.0 x.1.1 (subst (λ (n : List ℕ). IsWriter parts other n) (sym nb ∙ (sym e ∙ na)) y.1.1)

      -- a sink that was opened and closed again has a new file
      pub emptied : (mid new : Outside) (result : Result (Unit {0}) Failed) → mid.file ≡ old.file → AreClosed (files_seen seen entries) mid new result → AreEmptied parts count old new
      emptied mid new result same C = record {
        sinks = λ place name lt (part, e, wr).
            (let h = O.first place part lt e in
            let o = sink_of old (slice_index_or planned place 0) name (option_map seen h.0) (open_writes old (slice_get heads (source_number parts place)) (slice_index_or planned place 0) part.form name (option_map seen h.0) wr h.2) in
            let at : IsSinkAt (files_seen seen entries) place o.0 = (o.1, slice_get_mapped (option_map seen) entries place h.0 h.1 ∙ ap Some o.2) in
            let front = C.front are_apart place o.0 at [] ((o.3).told tells) in
            ap new.file (sym ((o.3).name_is tells)) ∙ (front.1 ∙ ap Some (take_none front.0 [] refl)));
        others = λ name none. C.others name (λ place sink at is. (let x = sink_here place sink at in none place x.0 (subst (λ (n : List ℕ). IsWriter parts place n) (sym ((x.1.2).name_is tells) ∙ is) x.1.1))) ∙ ap (λ (f : List ℕ → Option (List ℕ)). f name) same;
      }

-- ---- a fault, once what was open is closed

source_fault_later : (line : ℕ) (name : List ℕ) (old mid new : Outside) (fault : Fault) → IsStill mid new → IsSourceFault line name old mid fault → IsSourceFault line name old new fault
source_fault_later line name old mid new (Faults.BadMedia which fault) S is = is
source_fault_later line name old mid new Faults.ReadFault S is = failed_sooner (name ∷ []) old mid new is S
source_fault_later line name old mid new (Faults.Absent which) S is = (is.0, sooner old.absences mid.absences new.absences ((S.goes_on).absences) is.1, is.2)
source_fault_later line name old mid new Faults.OutOfMemory S is = tt
source_fault_later line name old mid new (Faults.Short which at size) S is = is
source_fault_later line name old mid new (Faults.Script at why) S is = absurd is
source_fault_later line name old mid new Faults.Usage S is = absurd is
source_fault_later line name old mid new Faults.WriteFault S is = absurd is
source_fault_later line name old mid new (Faults.Units have need) S is = absurd is
source_fault_later line name old mid new (Faults.Packets why) S is = absurd is
source_fault_later line name old mid new (Faults.NotRun at why) S is = absurd is

pub source_refused_later : (line : ℕ) (name : List ℕ) (old mid new : Outside) (fault : Fault) → IsStill mid new → IsSourceRefused line name old mid fault → IsSourceRefused line name old new fault
source_refused_later line name old mid new fault S R = record {
  goes_on = then old mid new R.goes_on S.goes_on;
  files = S.files ∙ R.files;
  reads = λ n. S.reads ∙ R.reads n;
  unread = λ n. S.unread ∙ R.unread n;
  writes = S.writes ∙ R.writes;
  unabsent = λ none. S.absences ∙ R.unabsent none;
  why = source_fault_later line name old mid new fault S R.why;
}

pub sink_fault_later : (line : ℕ) (name : List ℕ) (old mid new : Outside) (fault : Fault) → GoesOn mid new → IsSinkFault line name old mid fault → IsSinkFault line name old new fault
sink_fault_later line name old mid new Faults.WriteFault S is = sooner old.write_faults mid.write_faults new.write_faults (S.write_faults) is
sink_fault_later line name old mid new (Faults.Absent which) S is = (is.0, sooner old.absences mid.absences new.absences (S.absences) is.1, is.2)
sink_fault_later line name old mid new Faults.OutOfMemory S is = tt
sink_fault_later line name old mid new (Faults.BadMedia which fault) S is = absurd is
sink_fault_later line name old mid new Faults.ReadFault S is = absurd is
sink_fault_later line name old mid new (Faults.Short which at size) S is = absurd is
sink_fault_later line name old mid new (Faults.Script at why) S is = absurd is
sink_fault_later line name old mid new Faults.Usage S is = absurd is
sink_fault_later line name old mid new (Faults.Units have need) S is = absurd is
sink_fault_later line name old mid new (Faults.Packets why) S is = absurd is
sink_fault_later line name old mid new (Faults.NotRun at why) S is = absurd is
