-- What the calls of a play say of its files, by the plan and the files that it began with.
use Rattle.std.proofs.Common.{◌≡◌, ℕ, List, [], length, Option, Some, None, option_map, Result, Ok, Err, IfOk, IfErr, OnErr, inr, refl, sym, ◌∙◌, ap, subst, append-nil, arith}
use Rattle.std.proofs.lemmas.List.{length-map}
use Rattle.std.proofs.lemmas.Option.{slice_get_within}
use Rattle.std.specs.Io.KnownBytes.{append_known}
use Rattle.outside_io.specs.declared.sink.Sink.{Ghosts as SinkGhosts}
use Rattle.outside_io.specs.declared.source.Source.{Ghosts as SourceGhosts}
use Rattle.audio_parts.specs.Objects.{ObjectShows, ObjectStays}
use Rattle.audio_parts.specs.declared.part_file.PartFile.{PartFile}
use Rattle.il_machine.specs.Sound.{Sound}
use Rattle.il_machine.specs.Whole.{Always}
use Rattle.il_machine.specs.World.{World}
use Rattle.il_graph.specs.Shown.{TellWritten, offered}
use Rattle.play_build_laws.proofs.Places.{get_there}
use Rattle.play_forms.specs.Plans.{PlanValue}
use Rattle.play_plan_laws.specs.Assemblies.{IsReady, PlayFiles}
use Rattle.play_log.specs.Entries.{Entry}
use Rattle.play_log.specs.Kept.{LogValue}
use Rattle.play_log.specs.Logged.{IsLogged, Keeps}
use Rattle.play_log.specs.Scenes.{Scene}
use Rattle.play_files.specs.Seen.{FileSeen, sink_seen}
use Rattle.play_graph.specs.Ending.{AreFilesOf as AreGraphFiles}
use Rattle.play_graph.specs.Graphs.{kept_of}
use Rattle.play_graph.specs.Making.{AreGone, AreOffered}
use Rattle.play_course.specs.declared.player.RunFault.{RunFault}
use Rattle.play_course.specs.declared.player.RunFault.TheVariants as runs
use Rattle.play_course.specs.Failing.{LeavesBehind, fault_at}
use Rattle.play_course.specs.Players.{AreFilesOf, CanPlay, IsFailed, IsPlayedWhole}
use Rattle.play_course.specs.Running.{AreSameFiles, IsRunCause}
use Rattle.play_run.specs.declared.failure.Stop.{Stop}
use Rattle.play_run.specs.declared.failure.Stop.TheVariants as stops
use Rattle.play_run.specs.Closing.{HasPlayedWith, KeepsLog}
use Rattle.play_run.specs.Logging.{IsKeptTo, IsNamedTo}
use Rattle.play_run.specs.Playing.{PlayingValue}
use Rattle.play_run.specs.Turning.{FilesStayed, HasBrokenOff, HasBrokenOffWith, StopShows}
use Rattle.play_run.specs.Faults.{fault_of}
use Rattle.play_run.proofs.Comings.{are_same, does_show, is_cause, seen, seen_file}
use Rattle.play_run.proofs.ThreadFiles.{are_offered, seen_at}
use Rattle.play_run.proofs.Runs.{failed_left, is_broken_off, is_failed, is_front, is_whole, standing_left}
use Rattle.play_run.proofs.Sinks.{sink_entry, sink_offer}

moved : (P : PlanValue → PlayFiles → Type 0) (a b : PlanValue) (f g : PlayFiles) → a ≡ b → f ≡ g → P a f → P b g
moved P a b f g s t h = subst (λ (y : PlayFiles). P b y) t (subst (λ (y : PlanValue). P y f) s h)

-- the law on logs
abbrev pub LogsName : Type 0
LogsName = (plan : PlanValue) (files : PlayFiles) (log : LogValue) (text : List ℕ) (ending : World) → IsKeptTo plan files log ending → ((s : Scene) (history : List Entry) → Keeps s history log → IsLogged s history text) → IsNamedTo plan files text ending

pub when_ok : {E : Type 0} (log : LogValue) (r : Result (List ℕ) E) (Q : List ℕ → Type 0) → ((s : Scene) (history : List Entry) → Keeps s history log → IfOk r (IsLogged s history))
    → ((text : List ℕ) → ((s : Scene) (history : List Entry) → Keeps s history log → IsLogged s history text) → Q text) → IfOk r Q
when_ok log (Ok text) Q L h = h text L
when_ok log (Err e) Q L h = tt

pub when_err : {A : Type 0} (before after : List (Option FileSeen)) (r : Result A RunFault) → IfErr r (λ fault. fault ≡ runs.OutOfMemory) → IfErr r (IsRunCause before after)
when_err before after (Ok a) h = tt
when_err before after (Err e) h = subst (IsRunCause before after) (sym h) tt

pub when_want : {A : Type 0} (Q : RunFault → Type 0) (r : Result A RunFault) → IfErr r (λ fault. fault ≡ runs.OutOfMemory) → Q runs.OutOfMemory → IfErr r Q
when_want Q (Ok a) h q = tt
when_want Q (Err e) h q = subst Q (sym h) q

pub on_err : {A E : Type 0} {P : Type 0} (r : Result A E) → P → OnErr r P
on_err (Ok a) h = tt
on_err (Err e) h = h

nothing_more : (known : Option (List ℕ)) → known ≡ append_known known []
nothing_more None = refl
nothing_more (Some xs) = ap (λ (y : List ℕ). Some y) (sym (append-nil xs))

pub all_gone : {S K : Type 0} (a b : PlanValue) (entries : List (Option (PartFile S K))) → b ≡ a → AreGone (length a.parts) entries → AreGone (length b.parts) entries
all_gone a b entries e h = subst (λ (y : PlanValue). AreGone (length y.parts) entries) (sym e) h

module _ {S K : Type 0} (reads : SourceGhosts S) (writes : SinkGhosts K) (plan : PlanValue)
    (entries : List (Option (PartFile S K))) (ready : CanPlay plan (seen reads writes entries)) where
  -- before it begins, each sink took a front of its text: nothing
  pub untouched : (given : PlayFiles) → AreFilesOf plan given (seen reads writes entries)
      → IsFailed plan given (seen reads writes entries) (seen reads writes entries)
  untouched given O = λ samples A place sink I.
      let l = slice_get_within plan.parts place I.0 I.1 in
      let n = length-map entries (option_map (seen_file reads writes)) in
      let m = ready.many in
      let f = get_there entries place (omega (arith, l, n, m)) in
      let o = sink_offer plan given place sink I in
      let k = sink_entry reads writes f.0 o.0 (given.known place) (are_offered reads writes plan given entries O place f.0 f.1 ∙ o.1) in
      let at = seen_at reads writes entries place f.0 f.1 ∙ ap (λ (y : Option (PartFile S K)). Some (option_map (seen_file reads writes) y)) k.2 in (
        [],
        record { first = sink_seen writes k.0; last = sink_seen writes k.0; planned = k.1; count = k.1; was = at; is = at; took = nothing_more (writes.told k.0) },
        (0, omega arith, refl),
      )

  module _ (first x : PlayingValue S K) (mid now : List (Option (PartFile S K))) (is_plan : x.plan ≡ plan) (many_mid : length mid ≡ length entries) (many_now : length now ≡ length mid)
      (were : AreGraphFiles first.graph (length plan.parts) entries) (are : AreGraphFiles x.graph (length x.plan.parts) now) (stayed : FilesStayed (ObjectStays reads.name reads.size reads.told reads.ends reads.offset reads.faults writes.name writes.faults) first x) where
    many_first : length entries ≡ length x.plan.parts
    many_first = sym (length-map entries (option_map (seen_file reads writes))) ∙ (ready.many ∙ ap (λ (y : PlanValue). length y.parts) (sym is_plan))

    many_last : length now ≡ length x.plan.parts
    many_last = many_now ∙ (many_mid ∙ many_first)

    were_there : AreGraphFiles first.graph (length x.plan.parts) entries
    were_there = subst (λ (y : PlanValue). AreGraphFiles first.graph (length y.parts) entries) (sym is_plan) were

    pub files_same : AreSameFiles (seen reads writes entries) (seen reads writes now)
    files_same = are_same reads writes (length x.plan.parts) first.graph x.graph entries now were_there are many_first many_last stayed

    pub fault_cause : (stop : Stop) → HasBrokenOff x stop → StopShows (ObjectShows reads.size reads.ends reads.offset reads.faults writes.faults) first x stop
        → IsRunCause (seen reads writes entries) (seen reads writes now) (fault_of stop)
    fault_cause (stops.Failed failure) F shows = is_cause reads writes (length x.plan.parts) first.graph x.graph entries now were_there are failure.component failure.fault F.there shows
    fault_cause stops.OutOfMemory B shows = tt

    module _ (written : Always (kept_of x.graph) (TellWritten writes.told x.graph)) (given : PlayFiles) (R : IsReady plan given) (O : AreFilesOf plan given (seen reads writes entries)) where
      offers : AreOffered plan given (offered reads.offset reads.size reads.told writes.told) entries
      offers = are_offered reads writes plan given entries O

      pub run_whole : HasPlayedWith x given → LogsName → (log : LogValue) → KeepsLog x log → (text : List ℕ) → ((s : Scene) (history : List Entry) → Keeps s history log → IsLogged s history text)
          → IsPlayedWhole 0 plan given (seen reads writes entries) (seen reads writes now) text
      run_whole (p, Y, over, with) names log keeps text logged =
          let f = Y.standing.files in
          moved (λ y z. IsPlayedWhole 0 y z (seen reads writes entries) (seen reads writes now) text) x.plan plan f given is_plan with
          (is_whole reads writes first x entries now many_first many_last were_there are stayed written p Y over
          (moved IsReady plan x.plan given f (sym is_plan) (sym with) R)
          (moved (λ y z. AreOffered y z (offered reads.offset reads.size reads.told writes.told) entries) plan x.plan given f (sym is_plan) (sym with) offers)
          text (names x.plan f log text Y.standing.world (keeps p Y over) logged))

      pub run_front : HasPlayedWith x given → IsFailed plan given (seen reads writes entries) (seen reads writes now)
      run_front (p, Y, over, with) =
          let f = Y.standing.files in
          moved (λ y z. IsFailed y z (seen reads writes entries) (seen reads writes now)) x.plan plan f given is_plan with
          (is_front reads writes first x entries now many_first many_last were_there are stayed written p Y over
          (moved IsReady plan x.plan given f (sym is_plan) (sym with) R)
          (moved (λ y z. AreOffered y z (offered reads.offset reads.size reads.told writes.told) entries) plan x.plan given f (sym is_plan) (sym with) offers))

      pub run_failed : (stop : Stop) → HasBrokenOffWith x stop given → Always (kept_of x.graph) Sound
          → IsFailed plan given (seen reads writes entries) (seen reads writes now)
      run_failed (stops.Failed failure) (F, with) sound =
          let f = F.files in
          moved (λ y z. IsFailed y z (seen reads writes entries) (seen reads writes now)) x.plan plan f given is_plan with
          (is_failed reads writes first x entries now many_first many_last were_there are stayed written failure F sound
          (moved IsReady plan x.plan given f (sym is_plan) (sym with) R)
          (moved (λ y z. AreOffered y z (offered reads.offset reads.size reads.told writes.told) entries) plan x.plan given f (sym is_plan) (sym with) offers))
      run_failed stops.OutOfMemory (p, Y, with) sound =
          let f = Y.standing.files in
          moved (λ y z. IsFailed y z (seen reads writes entries) (seen reads writes now)) x.plan plan f given is_plan with
          (is_broken_off reads writes first x entries now many_first many_last were_there are stayed written p Y
          (moved IsReady plan x.plan given f (sym is_plan) (sym with) R)
          (moved (λ y z. AreOffered y z (offered reads.offset reads.size reads.told writes.told) entries) plan x.plan given f (sym is_plan) (sym with) offers))

      pub over_left : HasPlayedWith x given → LeavesBehind plan given (seen reads writes entries) (seen reads writes now) runs.OutOfMemory
      over_left (p, Y, over, with) =
          let f = Y.standing.files in
          moved (λ y z. LeavesBehind y z (seen reads writes entries) (seen reads writes now) runs.OutOfMemory) x.plan plan f given is_plan with
          (inr (standing_left reads writes first x entries now many_first many_last were_there are stayed written p Y
          (moved (λ y z. AreOffered y z (offered reads.offset reads.size reads.told writes.told) entries) plan x.plan given f (sym is_plan) (sym with) offers)))

      pub stop_left : (stop : Stop) → HasBrokenOffWith x stop given → StopShows (ObjectShows reads.size reads.ends reads.offset reads.faults writes.faults) first x stop → Always (kept_of x.graph) Sound
          → LeavesBehind plan given (seen reads writes entries) (seen reads writes now) (fault_of stop)
      stop_left (stops.Failed failure) (F, with) shows sound =
          let f = F.files in
          moved (λ y z. LeavesBehind y z (seen reads writes entries) (seen reads writes now) (fault_at failure.component failure.fault)) x.plan plan f given is_plan with
          (inr (failed_left reads writes first x entries now many_first many_last were_there are stayed written failure F sound
          (moved IsReady plan x.plan given f (sym is_plan) (sym with) R)
          (moved (λ y z. AreOffered y z (offered reads.offset reads.size reads.told writes.told) entries) plan x.plan given f (sym is_plan) (sym with) offers)
          (does_show reads writes (length x.plan.parts) first.graph x.graph entries now were_there are failure.component failure.fault F.there shows)))
      stop_left stops.OutOfMemory (p, Y, with) shows sound =
          let f = Y.standing.files in
          moved (λ y z. LeavesBehind y z (seen reads writes entries) (seen reads writes now) runs.OutOfMemory) x.plan plan f given is_plan with
          (inr (standing_left reads writes first x entries now many_first many_last were_there are stayed written p Y
          (moved (λ y z. AreOffered y z (offered reads.offset reads.size reads.told writes.told) entries) plan x.plan given f (sym is_plan) (sym with) offers)))
