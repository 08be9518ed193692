-- What a replay comes to at its end, and what comes back of its files.
use Rattle.std.proofs.Common.{◌≡◌, inr, ℕ, ◌<◌, true, false, List, [], length, slice_get, take, Option, Some, None, MatchOption, refl, sym, ◌∙◌, ap, subst, arith}
use Rattle.std.specs.Io.KnownBytes.{append_known}
use Rattle.std.proofs.lemmas.Option.{slice_get_within}
use Rattle.omx_types.specs.declared.fault.AuditWhy.TheVariants.{NotEnded}
use Rattle.omx_types.specs.declared.fault.PartFault.{PartFault}
use Rattle.il_machine.specs.declared.answer.Progress.{Progress}
use Rattle.il_machine.specs.World.{Component, Stream, component_numbered, stream_of}
use Rattle.audio_parts.specs.Objects.{FileShows, OnBoth, SinkShows, SourceShows}
use Rattle.audio_parts.specs.ObjectLaws.{object_further, shows_earlier, shows_later}
use Rattle.audio_parts.specs.declared.part_file.PartFile.{PartFile}
use Rattle.audio_parts.specs.declared.part_file.PartFile.TheVariants as files
use Rattle.play_forms.specs.Plans.{PlanValue}
use Rattle.play_log.proofs.Players.{some_same}
use Rattle.il_graph.specs.Shown.{TellWritten, file_of}
use Rattle.play_graph.specs.Ending.{AreFilesOf}
use Rattle.compared_files.specs.Comparing.{ComparingValue, given_by, told_by}
use Rattle.graph_acts.specs.Plain.{Sight}
use Rattle.audit_forms.specs.Audited.{AtEnd, Case, IsEnd, Moment, No}
use Rattle.outside_io.specs.Moves.{WhereTold}
use Rattle.run_audit.specs.declared.replay.Replay.{Replay}
use Rattle.run_audit.specs.Ending.{AreWhole, HasUnlike, IsAtRest, IsUngiven}
use Rattle.run_audit.specs.Files.{FileGoesOn, FilesGoOn, file_at, file_with}
use Rattle.run_audit.specs.Leaving.{HasThen}
use Rattle.run_audit.specs.Replayed.{FilesComeBack}
use Rattle.run_audit.specs.Replaying.{AreCompared, IsComparedWith, IsReplay}
use Rattle.run_audit.proofs.Files.{goes_same}

-- ---- files

module _ {S : Type 0} (see : Sight S (ComparingValue S) Progress) where
  abbrev Entry : Type 0
  Entry = Option (PartFile S (ComparingValue S))

  abbrev Shows : PartFault → Entry → Entry → Type 0
  Shows fault a b = OnBoth (FileShows (SourceShows see.reads.size see.reads.ends see.reads.offset see.reads.faults fault) (SinkShows see.writes.faults fault)) a b

  joins : (a b d : Entry) → FileGoesOn see true a b → FileGoesOn see true b d → FileGoesOn see true a d
  joins a b d F G =
      (object_further see.reads.name see.reads.size see.reads.told see.reads.ends see.reads.offset see.reads.faults see.writes.name see.writes.faults
      (record { failed = true; file = a }) (record { failed = true; file = b }) (record { failed = true; file = d }) ((λ e. e), F) ((λ e. e), G)).1

  pub shown : (fault : PartFault) (a b c d : Entry) → FileGoesOn see false a b → Shows fault b c → FileGoesOn see true c d → Shows fault a d
  shown fault a b c d F H G =
      let earlier = shows_earlier see.reads.name see.reads.size see.reads.told see.reads.ends see.reads.offset see.reads.faults see.writes.name see.writes.faults fault
      (record { failed = false; file = a }) (record { failed = false; file = b }) (record { failed = true; file = c }) ((λ e. e), F) (refl, H) in
      (shows_later see.reads.name see.reads.size see.reads.told see.reads.ends see.reads.offset see.reads.faults see.writes.name see.writes.faults fault
      (record { failed = false; file = a }) (record { failed = true; file = c }) (record { failed = true; file = d }) earlier ((λ e. e), G)).1

  -- where no work is out the file is in the graph
  pub in_graph : (r : Replay S Progress) (place : ℕ) → slice_get r.works.items place ≡ Some None → file_at see r place ≡ file_of place r.served.graph
  in_graph r place e = ap (λ (o : Option (Option _)). file_with o (file_of place r.served.graph)) e

  pub apart_back : (r : Replay S Progress) (count : ℕ) (after : List Entry) → ((place : ℕ) → place < count → slice_get r.works.items place ≡ Some None) → AreFilesOf r.served.graph count after
      → (place : ℕ) → place < count → HasThen (FileGoesOn see true (file_at see r place)) after place
  apart_back r count after none back place b = (file_of place r.served.graph, back place b, goes_same see true (file_at see r place) (file_of place r.served.graph) (sym (in_graph r place (none place b))))

  first_is : (first : Replay S Progress) (count : ℕ) (before : List Entry) → ((place : ℕ) → place < count → slice_get first.works.items place ≡ Some None) → AreFilesOf first.served.graph count before
      → (place : ℕ) (file : Entry) → place < count → slice_get before place ≡ Some file → file_at see first place ≡ file
  first_is first count before none at place file b e = in_graph first place (none place b) ∙ some_same (file_of place first.served.graph) file (sym (at place b) ∙ e)

  module _ (plan : PlanValue) (first walked : Replay S Progress) (before after : List Entry) (none : (place : ℕ) → place < length plan.parts → slice_get first.works.items place ≡ Some None)
      (at : AreFilesOf first.served.graph (length plan.parts) before) (back : (place : ℕ) → place < length plan.parts → HasThen (FileGoesOn see true (file_at see walked place)) after place) where
    pub comes_back : FilesGoOn see true first walked → FilesComeBack see plan before after
    comes_back F place file b e =
        let h = back place b in
        (h.0, h.1, joins file (file_at see walked place) h.0 (subst (λ (a : Entry). FileGoesOn see true a (file_at see walked place)) (first_is first (length plan.parts) before none at place file b e) (F place)) h.2)

    pub shows_back : (fault : PartFault) (place : ℕ) (mid : Replay S Progress) → place < length plan.parts → FilesGoOn see false first mid → Shows fault (file_at see mid place) (file_at see walked place)
        → (file : Entry) → slice_get before place ≡ Some file → HasThen (Shows fault file) after place
    shows_back fault place mid b F H file e =
        let h = back place b in (
          h.0,
          h.1,
          shown fault file (file_at see mid place) (file_at see walked place) h.0
              (subst (λ (a : Entry). FileGoesOn see false a (file_at see mid place)) (first_is first (length plan.parts) before none at place file b e) (F place)) H h.2,
        )

-- ---- the end

pub ungiven_at : {S : Type 0} (told : S → Option (List ℕ)) (entries : List (Option (PartFile S (ComparingValue S)))) (place : ℕ) (file : Option (PartFile S (ComparingValue S))) → slice_get entries place ≡ Some file → IsUngiven told file → HasUnlike told entries
ungiven_at told entries place None e U = absurd U
ungiven_at told entries place (Some (files.From src format frames)) e U = absurd U
ungiven_at told entries place (Some (files.To snk frames)) e U = (place, snk, (frames, e), U)

end_rests : (x : Case) (now : Moment) → IsEnd x now → IsAtRest x now
end_rests x now E = record { resting = E.resting; unmade = E.unmade; complete = E.complete }

-- something is out, so the lines may not end there
pub unended : (x : Case) (line : ℕ) (now : Moment) → (IsAtRest x now → ⊥) → AtEnd x line now [] (No line NotEnded)
unended x line now none = inr ((λ E. none (end_rests x now E)), refl)

module _ {S : Type 0} (see : Sight S (ComparingValue S) Progress) (r : Replay S Progress) (x : Case) (now : Moment) (I : IsReplay see true r x now) (R : IsAtRest x now)
    (written : TellWritten (λ snk. told_by (see.reads.told snk.src) snk) r.served.graph now.world)
    (none : (place : ℕ) → place < length r.works.items → slice_get r.works.items place ≡ Some None)
    (there : (place : ℕ) → place < length (r.plan).parts → (c : Component) × (component_numbered place now.world ≡ Some c) × (c.work ≡ None)) where
  A : AreCompared see.reads.told x.sinks r.works.items r.served.graph
  A = (I.standing).sinks refl

  inside : (place : ℕ) → place < length (r.plan).parts → IsComparedWith see.reads.told (x.sinks place) (file_of place r.served.graph)
  inside place b = let m = (I.standing).many_works in A.inside place (none place (omega (arith, b, m)))

  -- what the sink's comparison was given is what the sink has written
  told_so : (place frames : ℕ) (snk : ComparingValue S) (s : Stream) → place < length (r.plan).parts → file_of place r.served.graph ≡ Some (files.To snk frames) → stream_of place now.world ≡ Some s → s.known ≡ Some []
      → told_by (see.reads.told snk.src) snk ≡ Some s.written
  told_so place frames snk s b f e k =
      let c = there place b in
      written place frames c.0 s snk c.1 c.2 e f ∙ ap (λ (o : Option (List ℕ)). append_known o s.written) k

  -- the stream of a sink
  stream_at : (place : ℕ) (text : List ℕ) → x.sinks place ≡ Some text → (s : Stream) × (stream_of place now.world ≡ Some s) × (s.known ≡ Some [])
  stream_at place text e = by (stream_of place now.world) refl
    where
      by : (o : Option Stream) → stream_of place now.world ≡ o → (s : Stream) × (stream_of place now.world ≡ Some s) × (s.known ≡ Some [])
      by (Some s) f = (s, f, (subst (λ (o : Option Stream). MatchOption o ⊥ (λ st. (st.known ≡ Some []) × (take (length st.written) text ≡ st.written))) f (I.written place text e)).0)
      by None f = absurd (subst (λ (o : Option Stream). MatchOption o ⊥ (λ st. (st.known ≡ Some []) × (take (length st.written) text ≡ st.written))) f (I.written place text e))

  sink_at : (place : ℕ) (text : List ℕ) (file : Option (PartFile S (ComparingValue S))) → IsComparedWith see.reads.told (x.sinks place) file → x.sinks place ≡ Some text
      → (snk : ComparingValue S) × (frames : ℕ) × (file ≡ Some (files.To snk frames)) × (see.reads.told snk.src ≡ Some text)
  sink_at place text None C e = let z : None ≡ Some text = sym C ∙ e in absurd cc
  sink_at place text (Some (files.From src format frames)) C e = let z : None ≡ Some text = sym C ∙ e in absurd cc
  sink_at place text (Some (files.To snk frames)) C e = (snk, frames, refl, C.1 ∙ e)

  module _ (after : List (Option (PartFile S (ComparingValue S)))) (many : length after ≡ length (r.plan).parts) (back : AreFilesOf r.served.graph (length (r.plan).parts) after) (below : (place : ℕ) (text : List ℕ) → x.sinks place ≡ Some text → place < length (r.plan).parts) where
    pub whole_end : AreWhole see.reads.told after → IsEnd x now
    whole_end W = record {
      resting = R.resting;
      unmade = R.unmade;
      complete = R.complete;
      sinks = λ place text e.
          (let b = below place text e in
          let s = stream_at place text e in
          let k = sink_at place text (file_of place r.served.graph) (inside place b) e in
          let whole = W place k.0 (k.1, back place b ∙ ap (λ (o : Option (PartFile S (ComparingValue S))). Some o) k.2) in
          let same : (s.0).written ≡ text = some_same _ _ (sym (told_so place k.1 k.0 s.0 b k.2 s.1 s.2) ∙ (whole ∙ k.3)) in
          subst (λ (o : Option Stream). MatchOption o ⊥ (λ st. st.written ≡ text)) (sym s.1) same);
    }

    pub unlike_end : HasUnlike see.reads.told after → IsEnd x now → ⊥
    unlike_end U E =
        let place = U.0 in
        let snk = U.1 in
        let frames = (U.2).0 in
        let l = slice_get_within after place (Some (files.To snk frames)) (U.2).1 in
        let b : place < length (r.plan).parts = omega (arith, l, many) in
        let f : file_of place r.served.graph ≡ Some (files.To snk frames) = some_same _ _ (sym (back place b) ∙ (U.2).1) in
        let C : IsComparedWith see.reads.told (x.sinks place) (Some (files.To snk frames)) = subst (IsComparedWith see.reads.told (x.sinks place)) f (inside place b) in
        by place snk frames b f C (x.sinks place) refl U.3
      where
        by : (place : ℕ) (snk : ComparingValue S) (frames : ℕ) → place < length (r.plan).parts → file_of place r.served.graph ≡ Some (files.To snk frames)
            → IsComparedWith see.reads.told (x.sinks place) (Some (files.To snk frames)) → (o : Option (List ℕ)) → x.sinks place ≡ o → WhereTold (see.reads.told snk.src) (λ known. given_by known snk ≡ known → ⊥) → ⊥
        by place snk frames b f C None e N = C.0 e
        by place snk frames b f C (Some text) e N =
            let s = stream_at place text e in
            let t : see.reads.told snk.src ≡ Some text = C.1 ∙ e in
            let given : Some (given_by text snk) ≡ Some (s.0).written = ap (λ (o : Option (List ℕ)). told_by o snk) (sym t) ∙ told_so place frames snk s.0 b f s.1 s.2 in
            let end : (s.0).written ≡ text = subst (λ (o : Option Stream). MatchOption o ⊥ (λ st. st.written ≡ text)) s.1 (E.sinks place text e) in
            N text t (some_same _ _ given ∙ end)
