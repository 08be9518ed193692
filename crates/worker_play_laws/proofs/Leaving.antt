-- What a play by workers leaves, wherever it stops.
use Rattle.std.proofs.Common.{◌≡◌, ℕ, ◌+◌, ◌<◌, List, length, map, find, slice_get, Option, Some, None, option_map, refl, sym, ◌∙◌, ap, subst, arith}
use Rattle.std.proofs.lemmas.List.{length-map}
use Rattle.std.proofs.lemmas.Option.{slice_get_within}
use Rattle.omx_types.specs.declared.fault.PartFault.{PartFault}
use Rattle.outside_io.specs.declared.sink.Sink.{Ghosts as SinkGhosts}
use Rattle.outside_io.specs.declared.source.Source.{Ghosts as SourceGhosts}
use Rattle.audio_parts.specs.declared.part_file.PartFile.{PartFile}
use Rattle.il_machine.specs.Acts.{Act, Reply}
use Rattle.il_machine.specs.declared.answer.Progress.{Progress}
use Rattle.il_machine.specs.Sound.{Sound}
use Rattle.il_machine.specs.Stepping.{IsFrontOf}
use Rattle.il_machine.specs.World.{Component, Stream, World, component_numbered, is_stream_of, number_of, stream_of}
use Rattle.machine_laws.proofs.Every.{at_place}
use Rattle.machine_laws.proofs.Keys.{at_there, is_there, there_is}
use Rattle.machine_laws.proofs.Steps.{sound_run_of}
use Rattle.history_laws.proofs.Named.{is_named, named_there}
use Rattle.il_graph.specs.Shown.{Shown}
use Rattle.play_build_laws.proofs.Places.{from_mapped, get_there, mapped_at, stream_found}
use Rattle.play_forms.specs.Plain.{sink_text}
use Rattle.play_forms.specs.Plans.{PlanValue}
use Rattle.play_plan_laws.specs.Assemblies.{PlayFiles}
use Rattle.play_plan_laws.specs.Endings.{IsPlayedOut}
use Rattle.play_result_laws.specs.Files.{AreSamples, IsWriter}
use Rattle.play_result_laws.specs.Results.{IsPlayLog}
use Rattle.play_result_laws.specs.Texts.{HasWrittenFront}
use Rattle.play_result_laws.specs.Worlds.{HasWritten}
use Rattle.play_course.specs.declared.player.RunFault.{RunFault}
use Rattle.play_course.specs.Failing.{HasFailure, LeavesWorld, ShowsAt, TellsFirst}
use Rattle.play_course.specs.Players.{IsFailed, IsPlayedWhole}
use Rattle.play_course.specs.Running.{AreSameFiles, HasTaken, IsRunCause}
use Rattle.play_run.specs.Playing.{ToldAlike}
use Rattle.worker_play_laws.specs.Files.{ShowsSince}
use Rattle.worker_play_laws.specs.Leaving.{IsLeftWith, IsSteadyRun}
use Rattle.play_run.proofs.Comings.{are_same, does_show, has_taken, seen}
use Rattle.worker_play_laws.proofs.Failing.{failed_below, told_cause}
use Rattle.worker_play_laws.proofs.Posts.{Post, PostsStay, post_of, run_posts, was_there}
use Rattle.worker_play_laws.proofs.Told.{run_told}

-- ---- the world that the run left

-- the component of the number, at the place of that number, and its stream
pub record IsHere (w : World) (number : ℕ) : Type 0 where
  pub component : Component
  pub there : slice_get w.components number ≡ Some component
  pub named : component_numbered number w ≡ Some component
  pub stream : Stream
  pub found : stream_of number w ≡ Some stream

module _ (plan : PlanValue) (given : PlayFiles) (steps : List (Act × Reply)) (world : World) (R : IsSteadyRun plan given steps world) where
  sound_first : Sound R.opening
  sound_first = let stage = (R.opens).1 in stage.sound

  sound_last : Sound world
  sound_last = sound_run_of R.opening world steps R.runs sound_first

  pub told_alike : ToldAlike R.opening world
  told_alike = run_told R.opening world steps sound_first R.steady R.runs

  posts : PostsStay R.opening world
  posts = run_posts R.opening world steps sound_first R.steady R.runs

  -- a component's number is its place
  numbered : (i : ℕ) (c : Component) → slice_get world.components i ≡ Some c → number_of c ≡ i
  numbered i c at =
      let stage = (R.opens).1 in
      let x = was_there R.opening world posts i c at in
      let V = stage.built in
      let K = (V.components).each i x.0 x.1 in
      sym (ap (λ (p : Post). p.number) x.2) ∙ K.number

  -- and its stream stands there
  stream_numbered : (i : ℕ) (s : Stream) → slice_get world.streams i ≡ Some s → s.component ≡ 0 + i
  stream_numbered i s at =
      let e : slice_get (map number_of world.components) i ≡ Some s.component =
      ap (λ (numbers : List ℕ). slice_get numbers i) (sym sound_last.streams) ∙ (mapped_at (λ (y : Stream). y.component) world.streams i ∙ ap (option_map (λ (y : Stream). y.component)) at) in
      let c = from_mapped number_of world.components i s.component e in
      let n = numbered i c.0 c.1 in
      let own = c.2 in
      omega arith

  many_last : length world.components ≡ length plan.parts
  many_last =
      let stage = (R.opens).1 in
      let V = stage.built in
      let many : length (R.opening).components ≡ length plan.parts = V.many in
      sym (length-map world.components post_of) ∙ (ap length posts.posts ∙ (length-map (R.opening).components post_of ∙ many))

  pub here : (place : ℕ) → place < length plan.parts → IsHere world place
  here place below =
      let many = many_last in
      let c = get_there world.components place (omega arith) in
      let n = numbered place c.0 c.1 in
      let e : slice_get (map (λ (y : Stream). y.component) world.streams) place ≡ Some (number_of c.0) =
      ap (λ (numbers : List ℕ). slice_get numbers place) sound_last.streams ∙ (mapped_at number_of world.components place ∙ ap (option_map number_of) c.1) in
      let s = from_mapped (λ (y : Stream). y.component) world.streams place (number_of c.0) e in
      let at : place ≡ 0 + place = omega arith in
      record {
        component = c.0;
        there = c.1;
        named = subst (λ (m : ℕ). component_numbered m world ≡ Some c.0) n (is_named (number_of c.0) world ∙ named_there 0 world.numbered place world.components c.0 sound_last.rising c.1);
        stream = s.0;
        found = ap (λ (m : ℕ). find (is_stream_of m) world.streams) at ∙ (stream_found world.streams 0 place stream_numbered ∙ s.1);
      }

-- ---- its files

module _ {S K : Type 0} (reads : SourceGhosts S) (writes : SinkGhosts K) (plan : PlanValue) (given : PlayFiles) (first now : Shown S K Progress) (entries back : List (Option (PartFile S K))) (steps : List (Act × Reply)) (world : World)
    (L : IsLeftWith reads writes plan given first now entries back steps world) where
  pub took : (place : ℕ) (name : List ℕ) → IsWriter plan.parts place name → (bytes : List ℕ) × HasTaken (seen reads writes entries) (seen reads writes back) place bytes × HasWritten world place bytes
  took place name I =
      let R = L.run in
      let H = here plan given steps world R place (slice_get_within plan.parts place I.0 I.1) in
      let work = at_place (λ (c : Component). c.work ≡ None) world.components place H.component L.works H.there in (
        H.stream.written,
        has_taken reads writes (length plan.parts) first now entries back L.were L.are L.many L.many_back L.stayed plan given refl L.offers R.opening world R.opens (told_alike plan given steps world R) L.written
            place name I H.component H.named work H.stream H.found,
        is_there (stream_of place world) (λ (s : Stream). s.written ≡ H.stream.written) H.stream H.found refl,
      )

  pub left_same : AreSameFiles (seen reads writes entries) (seen reads writes back)
  left_same = are_same reads writes (length plan.parts) first now entries back L.were L.are L.many L.many_back L.stayed

  -- where each sink's file has taken a front of its text
  pub left_failed : ((samples : List (List ℕ)) → AreSamples plan given samples → (place : ℕ) (name : List ℕ) → IsWriter plan.parts place name → HasWrittenFront world place (sink_text plan samples place))
      → IsFailed plan given (seen reads writes entries) (seen reads writes back)
  left_failed fronts = λ samples A place name I.
      let t = took place name I in
      let s = there_is (stream_of place world) (λ (y : Stream). y.written ≡ t.0) t.2 in
      (t.0, t.1, subst (IsFrontOf (sink_text plan samples place)) s.2 (at_there (stream_of place world) (λ (y : Stream). IsFrontOf (sink_text plan samples place) y.written) s.0 s.1 (fronts samples A place name I)))

  -- where it has taken its text, and the log is there
  pub left_whole : (workers : ℕ) (text : List ℕ) → IsPlayLog workers plan given text world → IsPlayedOut plan world
      → ((samples : List (List ℕ)) → AreSamples plan given samples → (place : ℕ) (name : List ℕ) → IsWriter plan.parts place name → HasWritten world place (sink_text plan samples place))
      → IsPlayedWhole workers plan given (seen reads writes entries) (seen reads writes back) text
  left_whole workers text log played texts = record {
    ending = world;
    log = log;
    ends = played;
    took = λ place name I.
        let t = took place name I in
        let s = there_is (stream_of place world) (λ (y : Stream). y.written ≡ t.0) t.2 in
        (t.0, t.1, t.2, λ samples A. sym s.2 ∙ at_there (stream_of place world) (λ (y : Stream). y.written ≡ sink_text plan samples place) s.0 s.1 (texts samples A place name I));
  }

  module _ (shown : (place : ℕ) (why : PartFault) → HasFailure steps place why → ShowsSince reads writes first now place why) where
    left_shows : (place : ℕ) (why : PartFault) → HasFailure steps place why → ShowsAt (seen reads writes entries) (seen reads writes back) place why
    left_shows place why failed =
        does_show reads writes (length plan.parts) first now entries back L.were L.are place why (failed_below plan given steps world L.run place why failed) (shown place why failed)

    pub left_world : (fault : RunFault) → TellsFirst steps fault → LeavesWorld plan given (seen reads writes entries) (seen reads writes back) fault
    left_world fault told =
        let R = L.run in record {
          steps = steps;
          left = world;
          leads = record { opening = R.opening; opens = R.opens; runs = R.runs };
          first = told;
          shows = left_shows;
          took = took;
        }

    pub left_cause : (fault : RunFault) → TellsFirst steps fault → IsRunCause (seen reads writes entries) (seen reads writes back) fault
    left_cause fault told = told_cause (seen reads writes entries) (seen reads writes back) steps fault told left_shows
