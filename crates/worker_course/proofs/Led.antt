-- What workers did with a graph that was made is a play of the plan.
use Rattle.std.proofs.Common.{◌≡◌, ℕ, ◌^◌, ◌<◌, ◌≤◌, true, false, All, List, [], ◌∷◌, length, Option, Some, None, option_map, refl, sym, ◌∙◌, ap, subst, arith}
use Rattle.std.specs.Prelude.{IfSome}
use Rattle.std.proofs.lemmas.List.{length-map}
use Rattle.omx_types.specs.declared.fault.PartFault.{PartFault}
use Rattle.omx_types.specs.declared.handle.Handle.{Handle}
use Rattle.outside_io.specs.declared.sink.Sink.{Ghosts as SinkGhosts}
use Rattle.outside_io.specs.declared.source.Source.{Ghosts as SourceGhosts}
use Rattle.audio_parts.specs.declared.part_file.PartFile.{PartFile}
use Rattle.il_machine.specs.Acts.{Act as MachineAct, Reply as MachineReply}
use Rattle.il_machine.specs.declared.answer.Progress.{Progress}
use Rattle.il_machine.specs.Run.{Run}
use Rattle.il_machine.specs.Whole.{Always, Stands}
use Rattle.il_machine.specs.Sound.{Sound}
use Rattle.il_machine.specs.World.{Stream}
use Rattle.machine_laws.proofs.Every.{at_place, from_places}
use Rattle.machine_laws.proofs.Finding.{either}
use Rattle.il_graph.specs.Shown.{Shown, TellWritten, offered}
use Rattle.turnstile.specs.declared.entry.Entry.{Entry}
use Rattle.turnstile.specs.Entries.{own}
use Rattle.board.specs.declared.asked.Asked.{Asked}
use Rattle.board.specs.declared.asked.Told.{Told}
use Rattle.graph_acts.specs.declared.act.Act.{Act}
use Rattle.graph_acts.specs.declared.act.Act.TheVariants as asks
use Rattle.graph_acts.specs.declared.act.Reply.{Reply}
use Rattle.graph_acts.specs.Plain.{Sight}
use Rattle.board.specs.Asking.{ArePlain, bare_log}
use Rattle.board.specs.Histories.{graph_of}
use Rattle.worker_play_laws.specs.Entries.{entries_of}
use Rattle.work_signs.specs.Seats.{AreSeatsOf}
use Rattle.conductor.specs.declared.phase.Phase.TheVariants.{Over}
use Rattle.conductor.specs.Phases.{Conducts}
use Rattle.play_build_laws.specs.Dismantling.{AreLinks}
use Rattle.play_build_laws.specs.Stages.{Joining}
use Rattle.play_forms.specs.Plans.{PlanValue}
use Rattle.play_model.specs.Play.{Play}
use Rattle.play_world_laws.specs.Cast.{links_of}
use Rattle.play_world_laws.specs.Changing.{is_joined_at}
use Rattle.play_world_laws.specs.PlayWorlds.{IsPlayWorld}
use Rattle.read_world_laws.specs.Inside.{inside}
use Rattle.read_world_laws.specs.Mended.{mend}
use Rattle.play_log.specs.Entries.{Entry as LogEntry, steps_of}
use Rattle.play_plan_laws.specs.Assemblies.{IsReady, PlayFiles, play_cast_of}
use Rattle.play_plan_laws.specs.Endings.{HasEnded, IsPlayedOut, ends_of}
use Rattle.play_result_laws.specs.Passes.{own_steps}
use Rattle.play_result_laws.specs.Rounds.{IsConducting, IsHalted}
use Rattle.play_history_laws.specs.Worked.{conducts}
use Rattle.play_course.specs.Failing.{HasFailure, TellsFirst}
use Rattle.play_graph.specs.Ending.{AreFilesOf, StandsFor}
use Rattle.play_graph.specs.Graphs.{kept_of}
use Rattle.play_graph.specs.Making.{AreOffered, IsAt}
use Rattle.play_graph.specs.Stops.{HasNoneOut, HasStopped}
use Rattle.play_worker.specs.declared.failure.Failure.{Failure}
use Rattle.play_worker.specs.Failing.{TellsWorst}
use Rattle.play_worker.specs.Requests.{is_request_plain}
use Rattle.pass_book.specs.Books.{IsPlayCall}
use Rattle.pass_book.specs.Saying.{line_of}
use Rattle.pass_book.specs.Seats.{IsOfPlay, names_of}
use Rattle.play_log.specs.Lines.{IsLogLine}
use Rattle.worker_play_laws.specs.Lines.{HaveLogLines}
use Rattle.play_workers.specs.declared.ran.Ran.{Ran}
use Rattle.worker_play_laws.specs.Histories.{IsBoardPlay, IsPlayedBy, RequestsNothing}
use Rattle.worker_play_laws.specs.Files.{ShowsSince}
use Rattle.worker_play_laws.specs.Leaving.{IsLeftWith}
use Rattle.play_files.specs.Seen.{file_seen}
use Rattle.worker_course.specs.Reasons.{reason_of}
use Rattle.worker_course.specs.Runs.{HasRun}
use Rattle.worker_course.specs.Sights.{play_sight}
use Rattle.worker_course.proofs.Opened.{works_in}
use Rattle.worker_course.proofs.Placed.{seats_for, seats_of}
use Rattle.worker_course.proofs.Premises.{BoardLaws, WorldLaws}

-- ---- acts

module _ {S K C : Type 0} (see : Sight S K C) where
  requests_nothing : (act : Act S K C) → is_request_plain act ≡ false → RequestsNothing see act
  requests_nothing (asks.RunCommand h) e = λ u. refl
  requests_nothing (asks.Claim h) e = λ u. refl
  requests_nothing (asks.Finish done) e = λ u. refl
  requests_nothing (asks.Supply h port) e = λ u. refl
  requests_nothing (asks.Release h port) e = λ u. refl
  requests_nothing (asks.HandOver h port) e = λ u. refl
  requests_nothing (asks.HandBack h port) e = λ u. refl
  requests_nothing (asks.TakeNote h) e = λ u. refl
  requests_nothing (asks.EndNote h client) e = λ u. refl
  requests_nothing (asks.Progress h) e = λ u. refl
  requests_nothing act e = absurd cc

  all_nothing : (calls : List (Entry (Asked S K C) (Told S K C))) → All (λ e. is_request_plain e.act.act ≡ false) calls → All (λ e. RequestsNothing see e.act.act) calls
  all_nothing calls h =
      let P : Entry (Asked S K C) (Told S K C) → Type 0 = λ e. is_request_plain e.act.act ≡ false in
      from_places (λ (e : Entry (Asked S K C) (Told S K C)). RequestsNothing see e.act.act) calls (λ i e at. requests_nothing e.act.act (at_place P calls i e h at))

  -- the steps of the entries are those of the machine
  steps_same : (calls : List (Entry (Act S K C) (Reply S K C))) (steps : List (MachineAct × MachineReply)) → ArePlain see calls steps → steps_of (entries_of calls steps) ≡ steps
  steps_same [] [] h = refl
  steps_same [] (step ∷ steps) h = absurd h
  steps_same (e ∷ calls) [] h = absurd h
  steps_same (e ∷ calls) (step ∷ steps) h = ap (λ (xs : List (MachineAct × MachineReply)). step ∷ xs) (steps_same calls steps h.1)

-- ---- a play

module _ {S K G : Type 0} (reads : SourceGhosts S) (writes : SinkGhosts K) (counts : G → Option (ℕ → ℕ)) (plan : PlanValue) (workers : ℕ) (before : List (Option (PartFile S K))) (ran : Ran S K Progress G)
    (H : HasRun reads writes counts plan workers before ran) (world_laws : WorldLaws) (laws : BoardLaws reads writes)
    (given : PlayFiles) (R : IsReady plan given) (O : AreOffered plan given (offered reads.offset reads.size reads.told writes.told) before) where
  abbrev pub log : List (Entry (Asked S K Progress) (Told S K Progress))
  log = H.played.closed.log

  pub of_play : All (λ e. IsOfPlay H.seats e.act.act) log
  of_play = from_places (λ (e : Entry (Asked S K Progress) (Told S K Progress)). IsOfPlay H.seats e.act.act) log (λ i e at. (at_place (IsPlayCall H.seats) log i e H.played.acts at).of_play)

  pub said : HaveLogLines (names_of H.seats) log
  said = from_places (λ (e : Entry (Asked S K Progress) (Told S K Progress)). IfSome (line_of (names_of H.seats) e) IsLogLine) log (λ i e at. (at_place (IsPlayCall H.seats) log i e H.played.acts at).said)

  -- as the graph was made
  pub made : IsAt plan given (Joining (length plan.joints)) H.first
  made = H.made.made given R O

  pub seated : AreSeatsOf plan.parts made.handles H.seats
  seated = seats_of plan given H.first made H.seats H.seated

  pub opened : Stands (kept_of (graph_of H.played.first)) made.world
  opened = subst (λ (g : Shown S K Progress). Stands (kept_of g) made.world) (sym H.played.opening) made.stands

  pub played_by : IsPlayedBy (play_sight reads writes) H.seats workers log
  played_by = record { acts = of_play; alone = λ p b. all_nothing (play_sight reads writes) (own p log) (H.played.alone p b); few = H.played.few }

  pub play : IsBoardPlay (play_sight reads writes) plan given made.handles workers made.world (bare_log log) ran.graph
  play = laws.plays plan given made.handles H.seats workers false made.world H.played.first H.played.root ran.graph R made.built opened seated H.played.closed played_by

  abbrev pub entries : List LogEntry
  entries = entries_of (bare_log log) play.steps

  pub conducting : IsConducting plan given made.handles (own_steps conducts entries) ran.conductor
  conducting = either ran.refused
      (λ t. absurd (laws.halted plan given made.handles workers made.world log ran.graph play (λ steps P.
      subst (λ (hs : List Handle). IsHalted plan given hs steps) seated.seated (H.leaves.refused t given steps P))))
      (λ f. laws.conducted plan given made.handles workers made.world log ran.graph play ran.conductor (λ steps P.
      subst (λ (hs : List Handle). IsConducting plan given hs steps ran.conductor) seated.seated (H.leaves.conducted f given steps P)))

  pub idle : HasNoneOut play.after
  idle = laws.idle plan given made.handles workers made.world (bare_log log) ran.graph play H.back

  pub runs : Run made.world play.steps play.after
  runs = subst (λ (steps : List (MachineAct × MachineReply)). Run made.world steps play.after) (steps_same (play_sight reads writes) (bare_log log) play.steps play.plain) play.worked.runs

  -- ---- the graph

  abbrev Left : Type 0
  Left = (recent : ℕ) × (now : Play) × (streams : List Stream) × Sound play.after × IsPlayWorld (play_cast_of plan) recent now (inside (mend streams play.after))
      × ((link : ℕ) → link < links_of (play_cast_of plan).cast → (((play_cast_of plan).cast).layout).is_late link ≡ true → is_joined_at (now.change link).step ≡ true)

  left : Left
  left = world_laws.stands plan given made.handles made.world entries play.after play.worked ran.conductor conducting

  pub can_stop : StandsFor (HasStopped plan 0) ran.graph
  can_stop = (play.after, play.stands, world_laws.stops plan left.0 left.1 left.2 play.after R.valid left.3 left.4 left.5 idle)

  pub does_fit : (length plan.parts ≤ 32) × (length plan.joints ≤ 1024) × AreLinks (ends_of plan) (length plan.joints)
  does_fit = (
    R.valid.most,
    world_laws.few plan left.0 left.1 (inside (mend left.2 play.after)) R.valid left.4,
    world_laws.links plan left.0 left.1 (inside (mend left.2 play.after)) R.valid left.4,
  )

  pub over : ran.ended ≡ true → Conducts ran.conductor Over ran.conductor
  over e = (H.leaves.ended e).1

  pub played_out : ran.ended ≡ true → IsPlayedOut plan play.after
  played_out e = laws.ended plan given made.handles workers made.world log ran.graph play ran.conductor conducting ran.conductor (over e) H.back

  pub can_end : ran.ended ≡ true → StandsFor (HasEnded plan) ran.graph
  can_end e = (play.after, play.stands, (played_out e).ended)

  -- ---- the steps that failed

  pub shows : (place : ℕ) (why : PartFault) → HasFailure play.steps place why → ShowsSince reads writes H.first ran.graph place why
  shows = laws.shows H.seats H.played.first H.first ran.graph log play.steps made.world play.after H.played.closed.is_legal H.played.opening H.played.closed.objects of_play play.plain made.built.sound runs
      (works_in plan given H.first made) idle.works

  tells_by : (worst : Option Failure) → TellsWorst (bare_log log) worst → TellsFirst play.steps (reason_of worst)
  tells_by None h = tt
  tells_by (Some failure) h = laws.tells (bare_log log) play.steps play.plain failure h

  pub tells : TellsFirst play.steps (reason_of ran.worst)
  tells = tells_by ran.worst H.leaves.worst

  placed_by : (worst : Option Failure) → TellsWorst (bare_log log) worst → IfSome worst (λ failure. failure.component.generation < 2 ^ 32)
  placed_by None h = tt
  placed_by (Some failure) h =
      let f = laws.failures (bare_log log) play.steps play.plain failure h.0 in
      let b = laws.place H.seats log play.steps of_play play.plain (failure.component).generation failure.fault f in
      let n = (seats_for plan given H.first made H.seats H.seated).many in
      let m = R.valid.most in
      omega (arith, b, n, m)

  pub placed : IfSome ran.worst (λ failure. failure.component.generation < 2 ^ 32)
  placed = placed_by ran.worst H.leaves.worst

  -- ---- its files

  module _ (written : Always (kept_of ran.graph) (TellWritten writes.told ran.graph)) (after : List (Option (PartFile S K))) (many : length after ≡ length plan.parts) (are : AreFilesOf ran.graph (length plan.parts) after) where
    pub left_with : IsLeftWith reads writes plan given H.first ran.graph before after play.steps play.after
    left_with = record {
      run = record { opening = made.world; opens = (made.handles, made.built); steady = laws.steady H.seats log play.steps of_play play.plain; runs = runs };
      works = idle.works;
      many = sym (length-map before (option_map (file_seen reads writes))) ∙ H.made.can.many;
      many_back = many;
      offers = O;
      were = H.made.were;
      are = are;
      stayed = laws.stayed H.seats H.played.first H.first ran.graph log play.steps made.world play.after H.played.closed.is_legal H.played.opening H.played.closed.objects of_play play.plain made.built.sound runs
          (works_in plan given H.first made) idle.works;
      written = written play.after play.stands;
    }
