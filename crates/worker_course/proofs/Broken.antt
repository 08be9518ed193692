-- What workers leave of a play, whether or not it was done whole.
use Rattle.std.proofs.Common.{◌≡◌, inr, ℕ, ◌+◌, true, false, All, List, length, map, Option, refl, sym, subst, arith}
use Rattle.outside_io.specs.declared.sink.Sink.{Ghosts as SinkGhosts}
use Rattle.outside_io.specs.declared.source.Source.{Ghosts as SourceGhosts}
use Rattle.audio_parts.specs.declared.part_file.PartFile.{PartFile}
use Rattle.il_machine.specs.declared.answer.Progress.{Progress}
use Rattle.il_machine.specs.Whole.{Always}
use Rattle.il_graph.specs.Shown.{TellWritten, offered}
use Rattle.turnstile.specs.Entries.{own}
use Rattle.pass_book.specs.Saying.{line_of}
use Rattle.pass_book.specs.Seats.{names_of}
use Rattle.pass_lines.specs.Passes.{pass_of}
use Rattle.play_forms.specs.Plans.{PlanValue}
use Rattle.play_log.specs.Choosing.{lists_by}
use Rattle.play_log.specs.Lines.{log_text}
use Rattle.play_log.specs.Merged.{merged_all}
use Rattle.play_log.specs.Places.{AreKeptAt, PassLogValue, PlacedLine, line_place}
use Rattle.play_log.specs.Scenes.{HaveOwnNames}
use Rattle.play_plan_laws.specs.Assemblies.{IsReady, PlayFiles}
use Rattle.play_result_laws.specs.Gates.{GatesTellLog}
use Rattle.play_course.specs.declared.player.RunFault.{RunFault}
use Rattle.play_course.specs.declared.player.RunFault.TheVariants.{OutOfMemory}
use Rattle.play_course.specs.Failing.{LeavesBehind, TellsFirst}
use Rattle.play_course.specs.Players.{AreFilesOf as AreSeenFiles, IsFailed, IsPlayedWhole}
use Rattle.play_course.specs.Running.{AreSameFiles, IsRunCause}
use Rattle.play_graph.specs.Ending.{AreFilesOf}
use Rattle.play_graph.specs.Graphs.{kept_of}
use Rattle.play_graph.specs.Making.{AreOffered}
use Rattle.play_run.proofs.ThreadFiles.{are_offered}
use Rattle.play_workers.specs.declared.ran.Ran.{Ran}
use Rattle.play_workers.specs.Wholes.{HasCounted}
use Rattle.worker_play_laws.specs.Lines.{merged_text}
use Rattle.worker_course.specs.Answers.{IsBrokenOff, IsDone}
use Rattle.worker_course.specs.Reasons.{reason_of}
use Rattle.worker_course.specs.Runs.{HasRun}
use Rattle.worker_course.specs.Sights.{all_seen}
use Rattle.worker_course.proofs.Kept.{are_kept, gates_count}
use Rattle.worker_course.proofs.Led.{conducting, entries, left_with, log, made, opened, over, play, played_by, played_out, said, seated, shows, tells}
use Rattle.worker_course.proofs.Premises.{BoardLaws, FileLaws, LogLaws, WorldLaws}

module _ {S K G : Type 0} (reads : SourceGhosts S) (writes : SinkGhosts K) (counts : G → Option (ℕ → ℕ)) (plan : PlanValue) (workers : ℕ) (before : List (Option (PartFile S K))) (ran : Ran S K Progress G)
    (H : HasRun reads writes counts plan workers before ran) (world_laws : WorldLaws) (laws : BoardLaws reads writes) (file_laws : FileLaws reads writes)
    (written : Always (kept_of ran.graph) (TellWritten writes.told ran.graph)) (after : List (Option (PartFile S K))) (many : length after ≡ length plan.parts) (are : AreFilesOf ran.graph (length plan.parts) after) where
  -- the files by which it is known that the plan can be played
  its_offers : AreOffered plan H.made.can.files (offered reads.offset reads.size reads.told writes.told) before
  its_offers = are_offered reads writes plan H.made.can.files before H.made.can.are

  pub same : AreSameFiles (all_seen reads writes before) (all_seen reads writes after)
  same =
      let given = H.made.can.files in
      let R = H.made.can.ready in
      file_laws.same plan given H.first ran.graph before after (play reads writes counts plan workers before ran H world_laws laws given R its_offers).steps (play reads writes counts plan workers before ran H world_laws laws given R its_offers).after
      (left_with reads writes counts plan workers before ran H world_laws laws given R its_offers written after many are)

  -- ---- with these files

  module _ (given : PlayFiles) (R : IsReady plan given) (seen : AreSeenFiles plan given (all_seen reads writes before)) where
    abbrev O : AreOffered plan given (offered reads.offset reads.size reads.told writes.told) before
    O = are_offered reads writes plan given before seen

    failed : IsFailed plan given (all_seen reads writes before) (all_seen reads writes after)
    failed =
        let P = play reads writes counts plan workers before ran H world_laws laws given R O in
        let A = made reads writes counts plan workers before ran H world_laws laws given R O in
        file_laws.failed plan given H.first ran.graph before after P.steps P.after (left_with reads writes counts plan workers before ran H world_laws laws given R O written after many are)
        (λ samples S place name I.
        world_laws.fronts plan given A.handles A.world (entries reads writes counts plan workers before ran H world_laws laws given R O) P.after P.worked ran.conductor
        (conducting reads writes counts plan workers before ran H world_laws laws given R O) samples S place name I)

    leaves : (fault : RunFault) → TellsFirst (play reads writes counts plan workers before ran H world_laws laws given R O).steps fault → LeavesBehind plan given (all_seen reads writes before) (all_seen reads writes after) fault
    leaves fault first =
        let P = play reads writes counts plan workers before ran H world_laws laws given R O in
        inr (file_laws.left plan given H.first ran.graph before after P.steps P.after (left_with reads writes counts plan workers before ran H world_laws laws given R O written after many are)
        (shows reads writes counts plan workers before ran H world_laws laws given R O) fault first)

  causes : (fault : RunFault) → TellsFirst (play reads writes counts plan workers before ran H world_laws laws H.made.can.files H.made.can.ready its_offers).steps fault → IsRunCause (all_seen reads writes before) (all_seen reads writes after) fault
  causes fault first =
      let given = H.made.can.files in
      let R = H.made.can.ready in
      let P = play reads writes counts plan workers before ran H world_laws laws given R its_offers in
      file_laws.cause plan given H.first ran.graph before after P.steps P.after (left_with reads writes counts plan workers before ran H world_laws laws given R its_offers written after many are)
      (shows reads writes counts plan workers before ran H world_laws laws given R its_offers) fault first

  pub broken_off : IsBrokenOff plan (all_seen reads writes before) (all_seen reads writes after) (reason_of ran.worst)
  broken_off = record {
    failed = failed;
    cause = causes (reason_of ran.worst) (tells reads writes counts plan workers before ran H world_laws laws H.made.can.files H.made.can.ready its_offers);
    left = λ given R seen. leaves given R seen (reason_of ran.worst) (tells reads writes counts plan workers before ran H world_laws laws given R (are_offered reads writes plan given before seen));
  }

  -- where memory is wanting for the text
  pub unwritten : IsBrokenOff plan (all_seen reads writes before) (all_seen reads writes after) OutOfMemory
  unwritten = record { failed = failed; cause = tt; left = λ given R seen. leaves given R seen OutOfMemory tt }

  -- ---- a play that was done whole

  module _ (log_laws : LogLaws G reads writes) (ended : ran.ended ≡ true) (pages : All (λ (page : PassLogValue). page.broken ≡ false) ran.pages.items) (text : List ℕ)
      (is : (lists : List (List PlacedLine)) → AreKeptAt lists ran.pages.items → text ≡ log_text (map (λ (line : PlacedLine). line.line) (merged_all line_place lists))) where
    its_text : text ≡ merged_text (names_of H.seats) (workers + 1) H.played.closed.log
    its_text = is (lists_by pass_of (line_of (names_of H.seats)) 0 (workers + 1) H.played.closed.log) (are_kept H.seats H.played.closed.log (workers + 1) ran.pages.items H.pages H.leaves.pages pages)

    whole : (given : PlayFiles) → IsReady plan given → AreSeenFiles plan given (all_seen reads writes before) → IsPlayedWhole workers plan given (all_seen reads writes before) (all_seen reads writes after) text
    whole given R seen =
        let O = are_offered reads writes plan given before seen in
        let P = play reads writes counts plan workers before ran H world_laws laws given R O in
        let A = made reads writes counts plan workers before ran H world_laws laws given R O in
        let C = conducting reads writes counts plan workers before ran H world_laws laws given R O in
        let E = over reads writes counts plan workers before ran H world_laws laws given R O ended in
        let logged = log_laws.whole plan given A.handles H.seats workers A.world H.played.first H.played.closed.log ran.graph P
        (seated reads writes counts plan workers before ran H world_laws laws given R O) (opened reads writes counts plan workers before ran H world_laws laws given R O) refl
        H.played.closed.is_legal H.played.closed.met (played_by reads writes counts plan workers before ran H world_laws laws given R O) (said reads writes counts plan workers before ran H world_laws laws given R O) ran.conductor C ran.conductor E H.some.0 in
        subst (IsPlayedWhole workers plan given (all_seen reads writes before) (all_seen reads writes after)) (sym its_text)
        (file_laws.whole plan given H.first ran.graph before after P.steps P.after (left_with reads writes counts plan workers before ran H world_laws laws given R O written after many are)
        workers (merged_text (names_of H.seats) (workers + 1) H.played.closed.log) logged (played_out reads writes counts plan workers before ran H world_laws laws given R O ended)
        (λ samples S place name I. log_laws.files plan given A.handles A.world (entries reads writes counts plan workers before ran H world_laws laws given R O) P.after P.worked ran.conductor C ran.conductor E samples S place name I))

    told : HaveOwnNames plan.parts → GatesTellLog counts ran.gates.items plan.parts text
    told own_names =
        let given = H.made.can.files in
        let R = H.made.can.ready in
        let O = its_offers in
        let P = play reads writes counts plan workers before ran H world_laws laws given R O in
        let A = made reads writes counts plan workers before ran H world_laws laws given R O in
        subst (GatesTellLog counts ran.gates.items plan.parts) (sym its_text)
        (log_laws.gates plan given A.handles H.seats workers A.world H.played.first H.played.closed.log ran.graph P
        (seated reads writes counts plan workers before ran H world_laws laws given R O) (opened reads writes counts plan workers before ran H world_laws laws given R O) refl
        H.played.closed.is_legal H.played.closed.met (played_by reads writes counts plan workers before ran H world_laws laws given R O) (said reads writes counts plan workers before ran H world_laws laws given R O)
        ran.conductor (conducting reads writes counts plan workers before ran H world_laws laws given R O) ran.conductor (over reads writes counts plan workers before ran H world_laws laws given R O ended)
        own_names counts ran.gates.items (gates_count counts H.played.closed.log 1 ran.gates.items (λ i gate e. let z : i + 1 ≡ 1 + i = omega arith in subst (λ (p : ℕ). HasCounted counts (own p H.played.closed.log) gate) z (H.leaves.gates i gate e))))

    pub done : IsDone counts workers plan (all_seen reads writes before) (all_seen reads writes after) text ran.gates.items
    done = record { whole = whole; told = told }
