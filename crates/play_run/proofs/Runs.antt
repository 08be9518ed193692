-- What a play that is over leaves, and one that breaks off.
use Rattle.std.proofs.Common.{◌≡◌, ℕ, false, List, length, Option, Some, None, MatchOption, refl, sym, ◌∙◌, subst, arith}
use Rattle.std.proofs.lemmas.Option.{slice_get_within}
use Rattle.std.proofs.Math.Seq.{take-length}
use Rattle.omx_types.specs.declared.fault.PartFault.{PartFault}
use Rattle.outside_io.specs.declared.sink.Sink.{Ghosts as SinkGhosts}
use Rattle.outside_io.specs.declared.source.Source.{Ghosts as SourceGhosts}
use Rattle.audio_parts.specs.Objects.{ObjectStays}
use Rattle.audio_parts.specs.declared.part_file.PartFile.{PartFile}
use Rattle.il_machine.specs.Sound.{Sound}
use Rattle.il_machine.specs.Stepping.{IsFrontOf}
use Rattle.il_machine.specs.Whole.{Always}
use Rattle.il_machine.specs.World.{Component, Stream, World, component_numbered, number_of, stream_of}
use Rattle.history_laws.proofs.Named.{is_named, named_there}
use Rattle.machine_laws.proofs.Every.{at_place}
use Rattle.machine_laws.proofs.Keys.{is_there, there_is}
use Rattle.il_graph.specs.Shown.{TellWritten, offered}
use Rattle.play_log.specs.Entries.{steps_of}
use Rattle.play_forms.specs.Plain.{sink_text}
use Rattle.play_model.specs.Play.{Play}
use Rattle.play_model.specs.Reached.{IsOver}
use Rattle.play_world_laws.specs.Cast.{Cast, script_place}
use Rattle.play_plan_laws.specs.Assemblies.{IsReady, PlayFiles, play_cast_of}
use Rattle.play_result_laws.specs.Files.{AreSamples, IsWriter}
use Rattle.play_result_laws.specs.Worlds.{HasWritten}
use Rattle.play_stream_laws.proofs.Still.{IsStillThere}
use Rattle.play_stream_laws.proofs.StepStill.{finish_there, still_there}
use Rattle.play_files.specs.Seen.{FileSeen}
use Rattle.play_graph.specs.Ending.{AreFilesOf as AreGraphFiles}
use Rattle.play_graph.specs.Graphs.{kept_of}
use Rattle.play_graph.specs.Making.{AreOffered}
use Rattle.play_course.specs.declared.player.RunFault.TheVariants as runs
use Rattle.play_course.specs.Failing.{LeavesWorld, ShowsAt, fault_at}
use Rattle.play_course.specs.Players.{IsFailed, IsPlayedWhole}
use Rattle.play_course.specs.Running.{HasTaken}
use Rattle.play_result_laws.specs.Contents.{contents_of, streams_of}
use Rattle.play_result_laws.proofs.Opened.{opening_contents, opening_new}
use Rattle.play_result_laws.proofs.Plainly.{plan_plain}
use Rattle.play_result_laws.proofs.Texts.{texts_failed, texts_fronts, texts_whole}
use Rattle.play_run.specs.declared.failure.Failure.{Failure}
use Rattle.play_run.specs.Logging.{IsNamedTo}
use Rattle.play_run.specs.Playing.{HaveNoWork, IsPlaying, PlayingValue, cast, layout_of}
use Rattle.play_run.specs.Turning.{FilesStayed, HasFailed}
use Rattle.play_run.proofs.Comings.{has_taken, seen}
use Rattle.play_run.proofs.Failures.{none_whole, tells_only}

-- the component at the place with its stream
record IsHere (w : World) (place : ℕ) : Type 0 where
  pub component : Component
  pub named : component_numbered place w ≡ Some component
  pub work : component.work ≡ None
  pub stream : Stream
  pub found : stream_of place w ≡ Some stream

still_here : (x : Cast) (w : World) (c place : ℕ) → Sound w → HaveNoWork w → script_place x c ≡ place → IsStillThere x w c → IsHere w place
still_here x w c place Z works is T =
    let n : number_of T.component ≡ place = T.number ∙ is in
    let e : component_numbered (number_of T.component) w ≡ Some T.component = is_named (number_of T.component) w ∙ named_there 0 w.numbered (script_place x c) w.components T.component Z.rising T.there in
    record {
      component = T.component;
      named = subst (λ (m : ℕ). component_numbered m w ≡ Some T.component) n e;
      work = at_place (λ (y : Component). y.work ≡ None) w.components (script_place x c) T.component works T.there;
      stream = T.stream;
      found = subst (λ (m : ℕ). stream_of m w ≡ Some T.stream) n T.found;
    }

-- what is so of its stream
of_stream : (w : World) (place : ℕ) (P : Stream → Type 0) (s : Stream) → stream_of place w ≡ Some s → MatchOption (stream_of place w) ⊥ P → P s
of_stream w place P s found h =
    let t = there_is (stream_of place w) P h in
    let z : Some t.0 ≡ Some s = sym t.1 ∙ found in
    let q : t.0 ≡ s = cc in
    subst P q t.2

module _ {S K : Type 0} (reads : SourceGhosts S) (writes : SinkGhosts K)
    (first x : PlayingValue S K) (entries now : List (Option (PartFile S K))) (many : length entries ≡ length x.plan.parts) (many_now : length now ≡ length x.plan.parts)
    (were : AreGraphFiles first.graph (length x.plan.parts) entries) (are : AreGraphFiles x.graph (length x.plan.parts) now)
    (stayed : FilesStayed (ObjectStays reads.name reads.size reads.told reads.ends reads.offset reads.faults writes.name writes.faults) first x) (written : Always (kept_of x.graph) (TellWritten writes.told x.graph)) where
  abbrev before : List (Option FileSeen)
  before = seen reads writes entries

  abbrev after : List (Option FileSeen)
  after = seen reads writes now

  here : (p : Play) (Y : IsPlaying x p) (place : ℕ) (sink : List ℕ) → IsWriter x.plan.parts place sink → IsHere Y.standing.world place
  here p Y place sink I =
      let Z = Y.standing in
      let W = (Z.conducted).play in
      let l = slice_get_within x.plan.parts place I.0 I.1 in
      let t = (W.cast_is).each place l in
      still_here (cast x.plan) Z.world t.0 place W.sound Z.works t.2 (still_there (play_cast_of x.plan) Z.recent p Z.world t.0 W t.1)

  -- the run of whole steps that a play was in which is broken off or over
  pub standing_left : (p : Play) (Y : IsPlaying x p) → AreOffered x.plan Y.standing.files (offered reads.offset reads.size reads.told writes.told) entries
      → LeavesWorld x.plan Y.standing.files (seen reads writes entries) (seen reads writes now) runs.OutOfMemory
  standing_left p Y offers =
      let Z = Y.standing in
      let R = Z.recorded in
      record {
        steps = steps_of R.history;
        left = Z.world;
        leads = record { opening = Z.opening; opens = Z.begins.opens; runs = R.runs };
        first = tt;
        shows = λ place why failed. absurd (none_whole R.history place why R.whole failed);
        took = λ place sink I.
            let H = here p Y place sink I in (
              H.stream.written,
              has_taken reads writes (length x.plan.parts) first.graph x.graph entries now were are many many_now stayed x.plan Z.files refl offers Z.opening Z.world Z.begins.opens Z.told (written Z.world Z.stands) place sink I H.component H.named H.work H.stream H.found,
              is_there (stream_of place Z.world) (λ (s : Stream). s.written ≡ H.stream.written) H.stream H.found refl,
            );
      }

  -- in a component's turn each sink took a front of its text
  pub is_broken_off : (p : Play) (Y : IsPlaying x p) → IsReady x.plan Y.standing.files → AreOffered x.plan Y.standing.files (offered reads.offset reads.size reads.told writes.told) entries
      → IsFailed x.plan Y.standing.files (seen reads writes entries) (seen reads writes now)
  is_broken_off p Y ready offers = λ samples A place sink I.
      let Z = Y.standing in
      let H = here p Y place sink I in
      let streams = Z.streams (contents_of x.plan Z.files samples) (opening_contents x.plan Z.files samples Z.opening ready A Z.begins.opens) (opening_new x.plan Z.files samples Z.opening ready A Z.begins.opens) in (
        H.stream.written,
        has_taken reads writes (length x.plan.parts) first.graph x.graph entries now were are many many_now stayed x.plan Z.files refl offers Z.opening Z.world Z.begins.opens Z.told (written Z.world Z.stands) place sink I H.component H.named H.work H.stream H.found,
        of_stream Z.world place (λ (s : Stream). IsFrontOf (sink_text x.plan samples place) s.written) H.stream H.found
            (texts_fronts x.plan Z.files samples ready A Z.recent p Z.world (Z.conducted).play streams place sink I),
      )

  module _ (p : Play) (Y : IsPlaying x p) (over : IsOver (layout_of x.plan) p) (ready : IsReady x.plan Y.standing.files) (offers : AreOffered x.plan Y.standing.files (offered reads.offset reads.size reads.told writes.told) entries) where
    abbrev w : World
    w = Y.standing.world

    abbrev given : PlayFiles
    given = Y.standing.files

    took : (place : ℕ) (sink : List ℕ) → IsWriter x.plan.parts place sink
        → (bytes : List ℕ) × HasTaken (seen reads writes entries) (seen reads writes now) place bytes × HasWritten Y.standing.world place bytes × ((samples : List (List ℕ)) → AreSamples x.plan Y.standing.files samples → bytes ≡ sink_text x.plan samples place)
    took place sink I =
        let Z = Y.standing in
        let H = here p Y place sink I in (
          H.stream.written,
          has_taken reads writes (length x.plan.parts) first.graph x.graph entries now were are many many_now stayed x.plan given refl offers Z.opening w Z.begins.opens Z.told (written w Z.stands) place sink I H.component H.named H.work H.stream H.found,
          is_there (stream_of place w) (λ (s : Stream). s.written ≡ H.stream.written) H.stream H.found refl,
          λ samples A.
              let streams = Z.streams (contents_of x.plan given samples) (opening_contents x.plan given samples Z.opening ready A Z.begins.opens) (opening_new x.plan given samples Z.opening ready A Z.begins.opens) in
              let f = over.phase in
              of_stream w place (λ (s : Stream). s.written ≡ sink_text x.plan samples place) H.stream H.found
              (texts_whole x.plan given samples ready A Z.recent p w Z.conducted.play streams (omega (arith, f)) place sink I),
        )

    pub is_whole : (text : List ℕ) → IsNamedTo x.plan Y.standing.files text Y.standing.world
        → IsPlayedWhole 0 x.plan Y.standing.files (seen reads writes entries) (seen reads writes now) text
    is_whole text N =
        record {
          ending = w;
          log = record { opening = N.opening; entries = N.entries; opens = N.opens; logged = N.logged; names = N.names; made = N.alone; conducted = N.conducted };
          ends = N.ends;
          took = took;
        }

    -- a whole text is a front of itself
    pub is_front : IsFailed x.plan Y.standing.files (seen reads writes entries) (seen reads writes now)
    is_front = λ samples A place sink I.
        let t = took place sink I in
        (t.0, t.1, (length (sink_text x.plan samples place), omega arith, t.3 samples A ∙ sym (take-length (sink_text x.plan samples place))))

  module _ (failure : Failure) (F : HasFailed x failure) (sound : Always (kept_of x.graph) Sound) (ready : IsReady x.plan F.files) (offers : AreOffered x.plan F.files (offered reads.offset reads.size reads.told writes.told) entries) where
    there : (place : ℕ) (sink : List ℕ) → IsWriter x.plan.parts place sink → IsHere F.world place
    there place sink I =
        let l = slice_get_within x.plan.parts place I.0 I.1 in
        let t = ((F.played).cast_is).each place l in
        still_here (cast x.plan) F.world t.0 place (sound F.world F.stands) F.works t.2 (finish_there (play_cast_of x.plan) F.recent F.play F.before F.world F.done F.played F.finishes t.0 t.1)

    pub is_failed : IsFailed x.plan F.files (seen reads writes entries) (seen reads writes now)
    is_failed = λ samples A place sink I.
        let H = there place sink I in
        let fronts = F.fronts (contents_of x.plan F.files samples) (opening_contents x.plan F.files samples F.opening ready A F.begins.opens) (opening_new x.plan F.files samples F.opening ready A F.begins.opens)
        (streams_of x.plan samples) (plan_plain x.plan F.files samples ready A (λ l. false)) in (
          H.stream.written,
          has_taken reads writes (length x.plan.parts) first.graph x.graph entries now were are many many_now stayed x.plan F.files refl offers F.opening F.world F.begins.opens F.told (written F.world F.stands) place sink I H.component H.named H.work H.stream H.found,
          of_stream F.world place (λ (s : Stream). IsFrontOf (sink_text x.plan samples place) s.written) H.stream H.found
              (texts_failed x.plan F.files samples ready A F.recent F.play F.before F.world F.done F.played F.finishes fronts place sink I),
        )

    pub failed_left : ShowsAt (seen reads writes entries) (seen reads writes now) failure.component failure.fault
        → LeavesWorld x.plan F.files (seen reads writes entries) (seen reads writes now) (fault_at failure.component failure.fault)
    failed_left shows = record {
      steps = F.steps;
      left = F.world;
      leads = record { opening = F.opening; opens = F.begins.opens; runs = F.runs };
      first = tells_only F.steps failure.component failure.fault F.last F.alone;
      shows = λ place why failed.
          let a = F.alone place why failed in
          subst (λ (n : ℕ). ShowsAt (seen reads writes entries) (seen reads writes now) n why) (sym a.0)
          (subst (λ (y : PartFault). ShowsAt (seen reads writes entries) (seen reads writes now) failure.component y) (sym a.1) shows);
      took = λ place sink I.
          let H = there place sink I in (
            H.stream.written,
            has_taken reads writes (length x.plan.parts) first.graph x.graph entries now were are many many_now stayed x.plan F.files refl offers F.opening F.world F.begins.opens F.told (written F.world F.stands) place sink I H.component H.named H.work H.stream H.found,
            is_there (stream_of place F.world) (λ (s : Stream). s.written ≡ H.stream.written) H.stream H.found refl,
          );
    }
