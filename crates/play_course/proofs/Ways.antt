-- A play from its open files to its end.
use Rattle.std.proofs.Common.{◌≡◌, ℕ, zero, suc, ◌≤◌, List, [], ◌∷◌, drop, length, take, slice_get, Option, Some, None, option_map, Result, IsTrue, OnOk, refl, sym, ◌∙◌, ap, subst, arith}
use Rattle.std.specs.List.{sum_by}
use Rattle.std.specs.Io.KnownBytes.{append_known}
use Rattle.std.proofs.lemmas.List.{length-map}
use Rattle.std.proofs.lemmas.List.Sums.{sum_by-cons}
use Rattle.std.proofs.lemmas.Option.{slice_get_within}
use Rattle.omx_types.specs.declared.format.Format.{Format}
use Rattle.outside_io.specs.Files.{IsFrontOf, Outside}
use Rattle.outside_io.specs.declared.source.Failed.{Failed}
use Rattle.outside_io.proofs.Closed.{take-twice}
use Rattle.il_machine.specs.Stepping.{IsFrontOf as IsFront}
use Rattle.script_lang.specs.declared.play_line.PartLine.{PartLine}
use Rattle.script_lang.specs.declared.script.Script.{Script}
use Rattle.play_build_laws.proofs.Places.{get_there}
use Rattle.play_forms.specs.Plans.{PlanValue}
use Rattle.play_plan_laws.specs.Assemblies.{PlayFiles}
use Rattle.play_result_laws.specs.Files.{AreFiles, AreSamples, IsNoSink, IsWriter, read_by, written_by}
use Rattle.play_files.specs.Asked.{read_names}
use Rattle.play_files.specs.Closing.{AreNamedApart, AreClosed, IsNoneOf, IsOfFailed, IsSinkAt}
use Rattle.play_files.specs.Names.{HaveOwnFiles}
use Rattle.play_files.specs.Opening.{IsSinkOf}
use Rattle.play_files.specs.Seen.{FileSeen, Reads, SinkSeen, SourceSeen, Writes, files_seen, offer}
use Rattle.play_files.specs.Whole.{AreAllOpen, play_files}
use Rattle.play_files.proofs.Asking.{name_among}
use Rattle.play_files.proofs.Stopped.{sink_here, source_here, unseen_at}
use Rattle.play_course.specs.Outcomes.{WasOpened}
use Rattle.std.proofs.lemmas.List.{length-drop}
use Rattle.play_course.specs.Players.{AreFilesOf, CanPlay}
use Rattle.play_course.specs.Running.{AreSameFiles, HasTaken, IsSameFile}

-- ---- what the files tell

-- the samples that are told of files are those of what these tell
pub samples_of : (old : Outside) (plan : PlanValue) (files : PlayFiles) (samples : List (List ℕ)) → AreFiles old plan.parts files samples → AreSamples plan files samples
samples_of old plan files samples A = record {
  many = A.all;
  sources = λ place name r.
      let R = A.sources place name r in
      record {
        head = R.head;
        known = drop (R.head).start R.bytes;
        head_is = R.head_is;
        known_is = R.known;
        there = R.there ∙ sym (length-drop (R.head).start R.bytes);
        samples_are = R.samples_are;
      };
  sinks = A.sinks;
}

-- where one of many counts rose, their sum isn't none
pub counted : (f : Option FileSeen → ℕ) (files : List (Option FileSeen)) (place : ℕ) (file : Option FileSeen) → slice_get files place ≡ Some file → f file ≤ sum_by f files
counted f [] place file e = absurd cc
counted f (x ∷ files) zero file e = let s : x ≡ file = cc in let c = sum_by-cons f x files in let g : f x ≡ f file = ap f s in omega arith
counted f (x ∷ files) (suc place) file e = let i = counted f files place file e in let c = sum_by-cons f x files in omega arith

-- ---- the open files of a play

module _ {F : Type 0} (seen : F → FileSeen) (script : Script) (name log : List ℕ) (old mid : Outside) (plan : PlanValue) (entries : List (Option F)) (O : AreAllOpen seen script old mid plan entries) (own : HaveOwnFiles name log plan.parts) where
  pub the_files : PlayFiles
  the_files = play_files seen O.heads entries

  pub was_opened : WasOpened script old plan (play_files seen O.heads entries)
  was_opened = record { planned = O.planned; is_plan = O.is_plan; fitted = O.fitted; fit = O.fit; ready = O.ready }

  pub are_files_of : AreFilesOf plan (play_files seen O.heads entries) (files_seen seen entries)
  are_files_of place file e = let u = unseen_at seen entries place file e in ap (option_map offer) (sym u.2) ∙ O.offered place u.0 u.1

  pub can_play : CanPlay plan (files_seen seen entries)
  can_play = record {
    files = play_files seen O.heads entries;
    ready = O.ready;
    many = length-map entries (option_map seen) ∙ (O.opened).many;
    are = are_files_of;
  }

  -- a sink among them
  the_sink : (place : ℕ) (sink : SinkSeen) → IsSinkAt (files_seen seen entries) place sink → (its : List ℕ) × IsWriter plan.parts place its × IsSinkOf old its sink
  the_sink place sink at = (sink_here seen entries old plan.parts plan.frames (length plan.parts) O.heads O.opened place sink at).1

  module _ (after : List (Option FileSeen)) (same : AreSameFiles (files_seen seen entries) after) where
    -- what stood where a file stands
    was_at : (place : ℕ) (b : Option FileSeen) → slice_get after place ≡ Some b → (a : Option FileSeen) × (slice_get (files_seen seen entries) place ≡ Some a) × IsSameFile a b
    was_at place b e =
        let w = slice_get_within after place b e in
        let m = same.many in
        let p = get_there (files_seen seen entries) place (omega arith) in
        (p.0, p.1, same.each place p.0 b p.1 e)

    sink_was : (a : Option FileSeen) (b : SinkSeen) (frames : ℕ) → IsSameFile a (Some (Writes b frames)) → (s : SinkSeen) × (n : ℕ) × (a ≡ Some (Writes s n)) × (b.name ≡ s.name)
    sink_was (Some (Writes s n)) b frames h = (s, n, refl, h.name)
    sink_was (Some (Reads s format n)) b frames h = absurd h
    sink_was None b frames h = absurd h

    -- a sink that came back is the one that its component's line names
    sink_back : (place : ℕ) (sink : SinkSeen) → IsSinkAt after place sink → (its : List ℕ) × IsWriter plan.parts place its × (IsTrue old.tells → sink.name ≡ its)
    sink_back place sink (frames, at) =
        let w = was_at place (Some (Writes sink frames)) at in
        let s = sink_was w.0 sink frames w.2 in
        let t = the_sink place s.0 (s.1, w.1 ∙ ap Some s.2) in
        (t.0, t.1, λ tells. s.3 ∙ (t.2).name_is tells)

    -- so it is with a source
    source_was : (a : Option FileSeen) (b : SourceSeen) (format : Format) (frames : ℕ) → IsSameFile a (Some (Reads b format frames)) → (s : SourceSeen) × (f : Format) × (n : ℕ) × (a ≡ Some (Reads s f n)) × (b.name ≡ s.name)
    source_was (Some (Reads s f n)) b format frames h = (s, f, n, refl, h.name)
    source_was (Some (Writes s n)) b format frames h = absurd h
    source_was None b format frames h = absurd h

    module _ (tells : IsTrue old.tells) where
      -- a source that failed has a name that a line reads
      pub failed_among : (its : List ℕ) → IsOfFailed after its → (k : ℕ) × (slice_get (read_names plan.parts) k ≡ Some its)
      failed_among its (place, source, (format, frames, at), is, some) =
          let w = was_at place (Some (Reads source format frames)) at in
          let s = source_was w.0 source format frames w.2 in
          let p = source_here seen entries old plan.parts plan.frames (length plan.parts) O.heads O.opened place s.0 s.1 s.2 (w.1 ∙ ap Some s.3) in
          let among = name_among (λ (part : PartLine). read_by part.form) plan.parts place p.0 p.2.0 p.1 p.2.1 in
          let same_name : p.2.0 ≡ its = sym ((p.2.2.1).name_is tells) ∙ (sym s.4 ∙ is) in
          (among.0, among.1 ∙ ap Some same_name)

      pub still_apart : AreNamedApart after
      still_apart place other a b at bt e =
          let x = sink_back place a at in
          let y = sink_back other b bt in
          own.sinks place other x.0 x.1 (subst (λ (n : List ℕ). IsWriter plan.parts other n) (sym (y.2 tells) ∙ (sym e ∙ x.2 tells)) y.1)

      pub none_of : (n : List ℕ) → IsNoSink plan.parts n → IsNoneOf after n
      none_of n none place sink at is = let x = sink_back place sink at in none place (subst (λ (k : List ℕ). IsWriter plan.parts place k) (sym (x.2 tells) ∙ is) x.1)

      -- what a sink tells that took some bytes
      taken_told : (place : ℕ) (its bytes : List ℕ) → IsWriter plan.parts place its → (T : HasTaken (files_seen seen entries) after place bytes)
          → IsSinkAt after place T.last × (T.last.name ≡ its) × (T.last.told ≡ Some bytes)
      taken_told place its bytes w T =
          let at : IsSinkAt after place T.last = (T.count, T.is) in
          let b = sink_back place T.last at in
          let t = the_sink place T.first (T.planned, T.was) in
          let first : (T.first).told ≡ Some [] = (t.2).told tells in
          let named : b.0 ≡ its = one_name b.0 b.1 in
          (at, b.2 tells ∙ named, T.took ∙ ap (λ (o : Option (List ℕ)). append_known o bytes) first)
        where
          one_name : (other : List ℕ) → IsWriter plan.parts place other → other ≡ its
          one_name other (part, e, v) =
              let p = w.0 in
              let s : Some part ≡ Some p = sym e ∙ w.1 in
              let same : part ≡ p = cc in
              let n : Some other ≡ Some its = sym v ∙ (ap (λ (y : PartLine). written_by y.form) same ∙ w.2) in
              cc

      module _ (new : Outside) (closed : Result (Unit {0}) Failed) (C : AreClosed after mid new closed) where
        pub held : (place : ℕ) (its bytes : List ℕ) → IsWriter plan.parts place its → HasTaken (files_seen seen entries) after place bytes → OnOk closed (new.file its ≡ Some bytes)
        held place its bytes w T =
            let t = taken_told place its bytes w T in
            subst (λ (n : List ℕ). OnOk closed (new.file n ≡ Some bytes)) t.1
            (subst (λ (o : Option (List ℕ)). OnOk closed (new.file (T.last).name ≡ o)) t.2 (C.held still_apart place T.last t.0))

        pub front : (place : ℕ) (its bytes whole : List ℕ) → IsWriter plan.parts place its → HasTaken (files_seen seen entries) after place bytes → IsFront whole bytes → IsFrontOf (new.file its) whole
        front place its bytes whole w T (count, few, is) =
            let t = taken_told place its bytes w T in
            let f = C.front still_apart place T.last t.0 bytes t.2 in
            let twice = take-twice f.0 count whole in
            (twice.0, ap new.file (sym t.1) ∙ (f.1 ∙ ap Some (ap (take f.0) is ∙ twice.1)))

        pub others : (n : List ℕ) → IsNoSink plan.parts n → new.file n ≡ old.file n
        others n none = C.others n (none_of n none) ∙ ap (λ (f : List ℕ → Option (List ℕ)). f n) (O.still).files
