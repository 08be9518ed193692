-- What a play comes to, whose files were open.
use Rattle.std.proofs.Common.{◌≡◌, ◌≢◌, ℕ, ◌<◌, ◌≤◌, ◌^◌, List, Bool, true, false, [], length, slice_get, Option, Some, Result, Ok, Err, IsTrue, IsFalse, OnOk, IfOk, IfErr, inl, inr, refl, sym, ◌∙◌, ap, subst, arith, ◌∷◌, ◌++◌, ◌-◌}
use Rattle.std.specs.Prelude.{◌⊎◌}
use Rattle.std.specs.List.{sum_by}
use Rattle.std.proofs.lemmas.Bool.{cases_lt}
use Rattle.std.proofs.lemmas.List.{take_all}
use Rattle.omx_types.specs.declared.fault.Fault.{Fault}
use Rattle.omx_types.specs.declared.fault.Fault.TheVariants as Faults
use Rattle.omx_types.specs.declared.fault.PartFault.{PartFault}
use Rattle.omx_types.specs.declared.fault.PartFault.TheVariants as kinds
use Rattle.omx_types.specs.declared.fault.Which.TheVariants.{Line, Log}
use Rattle.outside_io.specs.Causes.{Rose, sum_of_counts}
use Rattle.outside_io.specs.Files.{AbsencesStand, CountsStand, GoesOn, IsFailedRead, IsFrontOf as FrontOf, Outside, SameBut, TellsAbsence, with_name, with_names}
use Rattle.outside_io.specs.Whole.{HasWriteReason, IsKeptOrFrontOf, IsShort}
use Rattle.outside_io.specs.declared.media.Refused.{Refused}
use Rattle.outside_io.specs.declared.media.Refused.TheVariants as Refusals
use Rattle.outside_io.specs.declared.source.Failed.{Failed}
use Rattle.wav_form.specs.declared.heads.WavHead.{WavHead}
use Rattle.wav_form.proofs.Read.{same_answer}
use Rattle.il_machine.specs.Stepping.{IsFrontOf as IsFront}
use Rattle.script_lang.specs.declared.play_line.PartLine.{PartLine}
use Rattle.script_lang.specs.declared.script.Script.{Script}
use Rattle.play_forms.specs.Plain.{sink_text}
use Rattle.play_forms.specs.Plans.{PlanValue}
use Rattle.play_log.specs.Entries.{steps_of}
use Rattle.play_log.specs.Scenes.{scene_of}
use Rattle.play_log.proofs.Names.{naming_runs}
use Rattle.play_plan_laws.specs.Assemblies.{IsReady, PlayFiles}
use Rattle.play_result_laws.specs.Files.{AreFiles, AreSamples, IsNoSink, IsWriter, read_by}
use Rattle.play_result_laws.specs.Results.{HoldSinks, IsLogOf, OthersAreKept}
use Rattle.play_result_laws.specs.Worlds.{HasWritten}
use Rattle.play_files.specs.Closing.{AreClosed, IsOfFailed, failed_reads, failed_writes}
use Rattle.play_files.specs.Names.{HaveOwnFiles}
use Rattle.play_files.specs.Opening.{HasHead, IsSourceOf, IsStill}
use Rattle.play_files.specs.Seen.{FileSeen, SourceSeen, files_seen}
use Rattle.play_files.specs.Asked.{HasAskedFor, read_names, written_names}
use Rattle.play_files.proofs.Asking.{asked_then}
use Rattle.play_files.specs.Whole.{AreAllOpen, play_files}
use Rattle.play_files.proofs.Closings.{then}
use Rattle.play_files.proofs.Fronts.{later}
use Rattle.play_files.proofs.Stopped.{calm_reads, source_here}
use Rattle.play_course.specs.declared.player.RunFault.{RunFault}
use Rattle.play_course.specs.declared.player.RunFault.TheVariants as Runs
use Rattle.play_course.specs.declared.settling.Ran.{Ran}
use Rattle.play_course.specs.Courses.{HasEnded, HasRun}
use Rattle.play_course.specs.Outcomes.{HasLeft, HasNotBegun, HoldsTold, IsBroken, IsClosedWhole, IsDone, IsLogFault, IsRunFault, IsUnlogged, IsWantOfMemory, ShowsOutside}
use Rattle.play_course.specs.Failing.{ShowsAt}
use Rattle.play_course.specs.Players.{AreFilesOf, IsPlayedWhole}
use Rattle.play_course.specs.Running.{HasTaken, IsRunCause}
use Rattle.play_course.specs.Settling.{fault_of_log, line_in, settled}
use Rattle.play_course.specs.Sums.{planned_summary}
use Rattle.play_course.proofs.Failing.{itself_front, least_told, least_whole, named_unfailed, take_none}
use Rattle.play_course.proofs.Running.{nothing_taken, sink_there}
use Rattle.play_course.proofs.Told.{summary_is}
use Rattle.play_course.proofs.Ways.{are_files_of, can_play, counted, failed_among, front, held, others, samples_of, was_opened}

-- ---- by its counts

-- the short source of a component is told by its line, and is short behind its head
abbrev pub IsTold : List PartLine → Outside → ℕ → ℕ → ℕ → Type 0
IsTold parts old place at size =
    (part : PartLine) × (name : List ℕ) × (slice_get parts place ≡ Some part) × (read_by part.form ≡ Some name) × IsShort name old at size × ((head : WavHead) → HasHead old name head → head.start ≤ at)

-- a source that stands behind its head gives nothing behind each head that its bytes read as
behind_head : (old : Outside) (name : List ℕ) (head : WavHead) (source : SourceSeen) (at : ℕ) → IsSourceOf old name head source → source.offset ≤ at → (other : WavHead) → HasHead old name other → other.start ≤ at
behind_head old name head source at I started other (bytes, held, reads) =
    let same = same_answer bytes (Ok head) (Ok other) (I.reads_as bytes held) reads in
    let is : head ≡ other = cc in
    let start = ap (λ (h : WavHead). h.start) is in
    let offset = I.offset in
    omega arith

read_rose : (after : List (Option FileSeen)) (old mid new : Outside) (closed : Result (Unit {0}) Failed) (more : ℕ) → IsStill old mid → mid.read_faults < 2 ^ 64 → AreClosed after mid new closed
    → more ≤ sum_by failed_reads after → 1 ≤ more → Rose old.read_faults new.read_faults
read_rose after old mid new closed more S few C le one = let a = C.reads few in let b = S.reads in omega arith

-- a failed read among them is one of a source that a line names
read_failed : (parts : List PartLine) (after : List (Option FileSeen)) (old mid new : Outside) (closed : Result (Unit {0}) Failed) → IsStill old mid → AreClosed after mid new closed
    → (IsTrue old.tells → (name : List ℕ) → IsOfFailed after name → (k : ℕ) × (slice_get (read_names parts) k ≡ Some name)) → 1 ≤ sum_by failed_reads after → Rose old.read_faults new.read_faults
    → IsFailedRead (read_names parts) old new
read_failed parts after old mid new closed S C among some rose = record {
  rose = rose;
  named = λ tells.
      (let (more, many, each, is) = C.named_reads in
      (more, (let few : 1 ≤ length more = omega (arith, many, some) in few), λ k name at. among tells name (each k name at), is ∙ ap (with_names more) S.unread));
}

-- where the count rose, a source failed
some_failed : (after : List (Option FileSeen)) (mid new : Outside) (closed : Result (Unit {0}) Failed) → AreClosed after mid new closed → mid.read_faults < new.read_faults → 1 ≤ sum_by failed_reads after
some_failed after mid new closed C more = elim (cases_lt 0 (sum_by failed_reads after)) [
  | inl some ↦ some
  | inr none ↦ (let same = C.unread (omega (arith, none)) in absurd (omega (arith, same, more)))
]

write_rose : (after : List (Option FileSeen)) (old mid new : Outside) (closed : Result (Unit {0}) Failed) (more : ℕ) → IsStill old mid → AreClosed after mid new closed
    → more ≤ sum_by failed_writes after → 1 ≤ more → Rose old.write_faults new.write_faults
write_rose after old mid new closed more S C le one = let a = C.writes in let b = S.writes in omega arith

closing_rose : (old mid new sum : ℕ) → mid ≡ old → Rose (sum_of_counts mid sum) new → Rose old new
closing_rose old mid new sum same rose = omega arith

why : (parts : List PartLine) (before after : List (Option FileSeen)) (old mid new : Outside) (few : mid.read_faults < 2 ^ 64) → IsStill old mid
    → ((place at size : ℕ) → IsRunCause before after (Runs.Short place at size) → IsTold parts old place at size)
    → (IsTrue old.tells → (name : List ℕ) → IsOfFailed after name → (k : ℕ) × (slice_get (read_names parts) k ≡ Some name))
    → (reads writes : Bool) (ran : Result Ran RunFault) (closed : Result (Unit {0}) Failed) → (IsTrue reads → mid.read_faults < new.read_faults) → (IsFalse reads → new.read_faults ≡ mid.read_faults)
    → (IsTrue writes → mid.write_faults < new.write_faults) → (IsFalse writes → new.write_faults ≡ mid.write_faults) → AreClosed after mid new closed → IfErr ran (IsRunCause before after)
    → (fault : Fault) → settled parts ran closed reads writes ≡ Err fault → IsRunFault parts old new fault
why parts before after old mid new few S short among true writes ran closed read unread wrote unwritten C cause fault e =
    let s : Faults.ReadFault ≡ fault = cc in
    let r = read refl in
    let a = S.reads in
    let rose : Rose old.read_faults new.read_faults = omega arith in
    subst (IsRunFault parts old new) s (read_failed parts after old mid new closed S C among (some_failed after mid new closed C r) rose)
why parts before after old mid new few S short among false true ran closed read unread wrote unwritten C cause fault e =
    let s : Faults.WriteFault ≡ fault = cc in
    let r = wrote refl in
    let a = S.writes in
    let rose : Rose old.write_faults new.write_faults = omega arith in
    subst (IsRunFault parts old new) s (rose, unread refl ∙ S.reads)
why parts before after old mid new few S short among false false (Ok it) (Ok done) read unread wrote unwritten C cause fault e = absurd cc
why parts before after old mid new few S short among false false (Ok it) (Err failed) read unread wrote unwritten C cause fault e =
    let s : Faults.WriteFault ≡ fault = cc in
    subst (IsRunFault parts old new) s (closing_rose old.write_faults mid.write_faults new.write_faults _ S.writes C.failed, unread refl ∙ S.reads)
why parts before after old mid new few S short among false false (Err Runs.OutOfMemory) closed read unread wrote unwritten C cause fault e =
    let s : Faults.OutOfMemory ≡ fault = cc in
    subst (IsRunFault parts old new) s tt
why parts before after old mid new few S short among false false (Err Runs.Read) closed read unread wrote unwritten C (place, a, b, was, (format, frames, at), rose) fault e =
    let s : Faults.ReadFault ≡ fault = cc in
    let le : b.faults ≤ sum_by failed_reads after = counted failed_reads after place _ at in
    let one : 1 ≤ b.faults = omega (arith, rose) in
    let some : 1 ≤ sum_by failed_reads after = omega (arith, le, one) in
    subst (IsRunFault parts old new) s (read_failed parts after old mid new closed S C among some (read_rose after old mid new closed b.faults S few C le one))
why parts before after old mid new few S short among false false (Err Runs.Write) closed read unread wrote unwritten C (place, a, b, was, (frames, at), rose) fault e =
    let s : Faults.WriteFault ≡ fault = cc in
    let le : b.faults ≤ sum_by failed_writes after = counted failed_writes after place _ at in
    let one : 1 ≤ b.faults = omega (arith, rose) in
    subst (IsRunFault parts old new) s (write_rose after old mid new closed b.faults S C le one, unread refl ∙ S.reads)
why parts before after old mid new few S short among false false (Err (Runs.Short place at size)) (Ok done) read unread wrote unwritten C cause fault e =
    let s : Faults.Short (Line (line_in (slice_get parts place))) at size ≡ fault = cc in
    let t = short place at size cause in
    subst (IsRunFault parts old new) s (record { reads = unread refl ∙ S.reads; writes = unwritten refl ∙ S.writes }, (place, t.0, t.1, t.2, t.3, ap (λ (o : Option PartLine). Line (line_in o)) t.2, t.4, t.5))
why parts before after old mid new few S short among false false (Err (Runs.Short place at size)) (Err failed) read unread wrote unwritten C cause fault e =
    let s : Faults.WriteFault ≡ fault = cc in
    subst (IsRunFault parts old new) s (closing_rose old.write_faults mid.write_faults new.write_faults _ S.writes C.failed, unread refl ∙ S.reads)

-- memory was wanted before the run, so no read failed
want_told : (parts : List PartLine) (old mid new : Outside) → IsStill old mid → new.read_faults ≡ mid.read_faults → (reads writes : Bool) (closed : Result (Unit {0}) Failed)
    → (IsTrue reads → mid.read_faults < new.read_faults) → (IsTrue writes → mid.write_faults < new.write_faults) → (IsFalse writes → new.write_faults ≡ mid.write_faults)
    → (fault : Fault) → settled {A = Ran} parts (Err Runs.OutOfMemory) closed reads writes ≡ Err fault → IsWantOfMemory old new fault
want_told parts old mid new S calm true writes closed read wrote unwritten fault e = let more = read refl in absurd (omega arith)
want_told parts old mid new S calm false true closed read wrote unwritten fault e =
    let s : Faults.WriteFault ≡ fault = cc in
    let more = wrote refl in
    let a = S.writes in
    let rose : Rose old.write_faults new.write_faults = omega arith in
    subst (IsWantOfMemory old new) s (rose, calm ∙ S.reads)
want_told parts old mid new S calm false false closed read wrote unwritten fault e =
    let s : Faults.OutOfMemory ≡ fault = cc in
    subst (IsWantOfMemory old new) s (record { reads = calm ∙ S.reads; writes = unwritten refl ∙ S.writes })

-- done whole: no count rose, and all was closed
record IsCalm (reads writes : Bool) (ran : Result Ran RunFault) (closed : Result (Unit {0}) Failed) (it : Ran) : Type 0 where
  unread : IsFalse reads
  unwritten : IsFalse writes
  ran_is : ran ≡ Ok it
  closed_is : closed ≡ Ok tt

calm : (parts : List PartLine) (reads writes : Bool) (ran : Result Ran RunFault) (closed : Result (Unit {0}) Failed) (it : Ran) → settled parts ran closed reads writes ≡ Ok it → IsCalm reads writes ran closed it
calm parts true writes ran closed it e = absurd cc
calm parts false true ran closed it e = absurd cc
calm parts false false (Ok r) (Ok done) it e = record { unread = refl; unwritten = refl; ran_is = cc; closed_is = refl }
calm parts false false (Ok r) (Err failed) it e = absurd cc
calm parts false false (Err fault) closed it e = absurd cc

-- ---- a play whose files were open

module _ {F : Type 0} (seen : F → FileSeen) (script : Script) (name log : List ℕ) (old mid new : Outside) (plan : PlanValue) (entries : List (Option F)) (O : AreAllOpen seen script old mid plan entries) (own : HaveOwnFiles name log plan.parts) where
  -- each sink took a front of its text
  fronts : {workers : ℕ} {Tells : List PartLine → List ℕ → Type 0} (after : List (Option FileSeen)) (ran : Result Ran RunFault) → HasRun workers Tells plan (files_seen seen entries) after ran → (samples : List (List ℕ)) → AreSamples plan (play_files seen O.heads entries) samples
      → (place : ℕ) (its : List ℕ) → IsWriter plan.parts place its → (bytes : List ℕ) × HasTaken (files_seen seen entries) after place bytes × IsFront (sink_text plan samples place) bytes
  fronts after (Ok it) R samples S place its w =
      let W = R.whole (play_files seen O.heads entries) O.ready (are_files_of seen script name log old mid plan entries O own) in
      let t = W.took place its w in
      let is = t.3 samples S in
      (t.0, t.1, (length (sink_text plan samples place), omega arith, is ∙ sym (take_all (length (sink_text plan samples place)) (sink_text plan samples place) (omega arith))))
  fronts after (Err fault) R samples S place its w = R.failed (play_files seen O.heads entries) O.ready (are_files_of seen script name log old mid plan entries O own) samples S place its w

  short_told : (place at size : ℕ) (after : List (Option FileSeen)) → IsRunCause (files_seen seen entries) after (Runs.Short place at size) → IsTold plan.parts old place at size
  short_told place at size after (source, (format, frames, there), G) =
      let p = source_here seen entries old plan.parts plan.frames (length plan.parts) O.heads O.opened place source format frames there in
      let I = p.2.2.1 in
      let head = p.2.2.0 in
      let whole = G.whole in
      let below = G.below in (
        p.0,
        p.2.0,
        p.1,
        p.2.1,
        record {
          below = omega arith;
          stopped = λ end is. (let s = G.stopped end (I.ends ∙ is) in let b = I.starts end is in let f = I.offset in omega arith);
          whole = λ bytes is. whole ∙ I.whole bytes is;
        },
        behind_head old p.2.0 head source at I G.started,
      )

  module _ {workers : ℕ} {Tells : List PartLine → List ℕ → Type 0} (result : Result Ran Fault) (H : HasEnded workers Tells plan plan.parts (files_seen seen entries) mid new result) where
    pub goes : GoesOn old new
    goes = then old mid new (O.still).goes_on (H.closes).goes_on

    asked_new : HasAskedFor old new (read_names plan.parts ++ written_names plan.parts)
    asked_new = (H.closes).openings ∙ O.asked

    pub absent_none : AbsencesStand old new
    absent_none = (H.closes).absences ∙ (O.still).absences

    -- a step that failed shows outside
    shows_outside : (after : List (Option FileSeen)) (place : ℕ) (why : PartFault) → AreClosed after mid new H.closed → ShowsAt (files_seen seen entries) after place why → ShowsOutside plan.parts old new place why
    shows_outside after place kinds.Read C (a, b, was, (format, frames, at), rose) =
        let le : b.faults ≤ sum_by failed_reads after = counted failed_reads after place _ at in
        let one : 1 ≤ b.faults = omega (arith, rose) in
        read_rose after old mid new H.closed b.faults O.still H.few C le one
    shows_outside after place kinds.Write C (a, b, was, (frames, at), rose) =
        let le : b.faults ≤ sum_by failed_writes after = counted failed_writes after place _ at in
        let one : 1 ≤ b.faults = omega (arith, rose) in
        write_rose after old mid new H.closed b.faults O.still C le one
    shows_outside after place (kinds.Short at size) C (source, there, G) =
        let t = short_told place at size after (source, there, G) in
        record { part = t.0; name = t.1; there = t.2; reads = t.3; short = t.4; behind = t.5 }

    -- a sink's name holds a front of what it took
    taken_front : IsTrue old.tells → (place : ℕ) (its bytes : List ℕ) → IsWriter plan.parts place its → HasTaken (files_seen seen entries) H.after place bytes → FrontOf (new.file its) bytes
    taken_front tells place its bytes w T = front seen script name log old mid plan entries O own H.after (H.has_run).same tells new H.closed H.closes place its bytes bytes w T (itself_front bytes)

    -- no sink took anything
    untaken : H.after ≡ files_seen seen entries → IsTrue old.tells → (place : ℕ) (its : List ℕ) → IsWriter plan.parts place its → new.file its ≡ Some []
    untaken same tells place its w =
        let given = play_files seen O.heads entries in
        let many = (can_play seen script name log old mid plan entries O own).many in
        let s = sink_there plan given (files_seen seen entries) place its many (are_files_of seen script name log old mid plan entries O own) w in
        let T : HasTaken (files_seen seen entries) H.after place [] = record {
          first = s.0;
          last = s.0;
          planned = s.1;
          count = s.1;
          was = s.2;
          is = ap (λ (files : List (Option FileSeen)). slice_get files place) same ∙ s.2;
          took = nothing_taken (s.0).told;
        } in
        let f = taken_front tells place its [] w T in
        f.1 ∙ ap Some (take_none f.0)

    -- no read failed
    unread : H.after ≡ files_seen seen entries → new.read_faults ≡ mid.read_faults
    unread same = calm_reads seen entries old plan.parts plan.frames (length plan.parts) O.heads O.opened mid new H.closed (subst (λ (files : List (Option FileSeen)). AreClosed files mid new H.closed) same H.closes)

    -- the world that the run left
    world : (ran : Result Ran RunFault) → HasRun workers Tells plan (files_seen seen entries) H.after ran → (fault : Fault) → settled plan.parts ran H.closed H.reads H.writes ≡ Err fault → HasNotBegun plan old new fault ⊎ HasLeft plan (play_files seen O.heads entries) old new fault
    world (Ok it) R fault e =
        let W = R.whole (play_files seen O.heads entries) O.ready (are_files_of seen script name log old mid plan entries O own) in
        let L = W.log in
        let s = scene_of plan.parts L.opening in
        inr (record {
          steps = steps_of L.entries;
          left = W.ending;
          leads = record { opening = L.opening; opens = L.opens; runs = naming_runs s L.opening W.ending it.text L.entries L.names };
          least = least_whole plan.parts (steps_of L.entries) it H.closed H.reads H.writes fault e;
          shows = λ place why failed. absurd (named_unfailed s L.opening (L.names).lines L.entries W.ending (L.names).name place why failed);
          sinks = λ tells place its w. (let t = W.took place its w in (t.0, t.2, taken_front tells place its t.0 w t.1));
        })
    world (Err why) R fault e = elim (R.left (play_files seen O.heads entries) O.ready (are_files_of seen script name log old mid plan entries O own)) [
      | inl b ↦ inl (record {
        told = want_told plan.parts old mid new O.still (unread b.1) H.reads H.writes H.closed H.read H.wrote H.unwritten fault
            (subst (λ (f : RunFault). settled {A = Ran} plan.parts (Err f) H.closed H.reads H.writes ≡ Err fault) b.0 e);
        sinks = untaken b.1;
      })
      | inr L ↦ inr (record {
        steps = L.steps;
        left = L.left;
        leads = L.leads;
        least = least_told plan.parts L.steps why H.closed H.reads H.writes fault L.first (λ place at size failed. (let t = shows_outside H.after place (kinds.Short at size) H.closes (L.shows place (kinds.Short at size) failed) in (t.part, t.there))) e;
        shows = λ place part failed. shows_outside H.after place part H.closes (L.shows place part failed);
        sinks = λ tells place its w. (let t = L.took place its w in (t.0, t.2, taken_front tells place its t.0 w t.1));
      })
    ]

    pub broken : (fault : Fault) → result ≡ Err fault → IsBroken script old new fault
    broken fault e = record {
      plan = plan;
      files = play_files seen O.heads entries;
      absences = absent_none;
      opened = was_opened seen script name log old mid plan entries O own;
      asked = asked_new;
      why = why plan.parts (files_seen seen entries) H.after old mid new H.few O.still (λ place at size c. short_told place at size H.after c)
          (failed_among seen script name log old mid plan entries O own H.after (H.has_run).same) H.reads H.writes H.ran H.closed H.read H.unread H.wrote H.unwritten H.closes (H.has_run).cause fault (sym H.is ∙ e);
      world = world H.ran H.has_run fault (sym H.is ∙ e);
      left = λ tells.
          (let f = O.files_are tells in
          record {
            samples = f.0;
            files_are = f.1;
            sinks = λ place its w.
                (let t = fronts H.after H.ran H.has_run f.0 (samples_of old plan (play_files seen O.heads entries) f.0 f.1) place its w in
                front seen script name log old mid plan entries O own H.after (H.has_run).same tells new H.closed H.closes place its t.0 (sink_text plan f.0 place) w t.1 t.2);
            others = others seen script name log old mid plan entries O own H.after (H.has_run).same tells new H.closed H.closes;
          });
    }

    module _ (it : Ran) (e : result ≡ Ok it) where
      calm_is : IsCalm H.reads H.writes H.ran H.closed it
      calm_is = calm plan.parts H.reads H.writes H.ran H.closed it (sym H.is ∙ e)

      pub stand : CountsStand old new
      stand = record { reads = H.unread calm_is.unread ∙ (O.still).reads; writes = H.unwritten calm_is.unwritten ∙ (O.still).writes }

      pub told : it.summary ≡ planned_summary plan
      told = subst (λ (r : Result Ran RunFault). IfOk r (λ x. x.summary ≡ planned_summary plan)) calm_is.ran_is (H.has_run).told

      whole : IsPlayedWhole workers plan (play_files seen O.heads entries) (files_seen seen entries) H.after it.text
      whole =
          let all = subst (λ (r : Result Ran RunFault). IfOk r (λ x. (given : PlayFiles) → IsReady plan given → AreFilesOf plan given (files_seen seen entries) → IsPlayedWhole workers plan given (files_seen seen entries) H.after x.text)) calm_is.ran_is (H.has_run).whole in
          all (play_files seen O.heads entries) O.ready (are_files_of seen script name log old mid plan entries O own)

      -- what is told of its log
      pub gates_tell : (final : Outside) → final.file log ≡ Some it.text → HoldsTold (Tells plan.parts) log final
      gates_tell final holding = (it.text, holding, subst (λ (r : Result Ran RunFault). IfOk r (λ x. Tells plan.parts x.text)) calm_is.ran_is (H.has_run).gates)

      -- the sinks' names hold what was written
      holds : IsTrue old.tells → (place : ℕ) (its bytes : List ℕ) → IsWriter plan.parts place its → HasTaken (files_seen seen entries) H.after place bytes → new.file its ≡ Some bytes
      holds tells place its bytes w T =
          subst (λ (r : Result (Unit {0}) Failed). OnOk r (new.file its ≡ Some bytes)) calm_is.closed_is (held seen script name log old mid plan entries O own H.after (H.has_run).same tells new H.closed H.closes place its bytes w T)

      no_log : IsNoSink plan.parts log
      no_log place w = own.log_other place log w refl

      module _ (final : Outside) (tells : IsTrue old.tells) (same : SameBut log new final) where
        keeps : (place : ℕ) (its : List ℕ) → IsWriter plan.parts place its → final.file its ≡ new.file its
        keeps place its w = same its (own.log_other place its w)

        pub log_of : IsLogOf workers plan (play_files seen O.heads entries) final it.text
        log_of = record {
          ending = whole.ending;
          log = whole.log;
          ends = record {
            played = whole.ends;
            sinks = λ place its text w holding.
                (let t = whole.took place its w in
                let s : Some t.0 ≡ Some text = sym (holds tells place its t.0 w t.1) ∙ (sym (keeps place its w) ∙ holding) in
                let is : t.0 ≡ text = cc in
                subst (HasWritten whole.ending place) is t.2);
          };
        }

        pub hold_sinks : (samples : List (List ℕ)) → AreFiles old plan.parts (play_files seen O.heads entries) samples → HoldSinks plan samples final
        hold_sinks samples A place its w =
            let t = whole.took place its w in
            keeps place its w ∙ (holds tells place its t.0 w t.1 ∙ ap Some (t.3 samples (samples_of old plan (play_files seen O.heads entries) samples A)))

        pub others_kept : OthersAreKept plan.parts log old final
        others_kept n other none = same n other ∙ others seen script name log old mid plan entries O own H.after (H.has_run).same tells new H.closed H.closes n none

        pub log_before : new.file log ≡ old.file log
        log_before = others seen script name log old mid plan entries O own H.after (H.has_run).same tells new H.closed H.closes log no_log

      -- the log was asked for, behind the other files
      asked_last : (final : Outside) → final.openings ≡ with_name log 1 new.openings → HasAskedFor old final ((read_names plan.parts ++ written_names plan.parts) ++ log ∷ [])
      asked_last final last = asked_then old new final (read_names plan.parts ++ written_names plan.parts) (log ∷ []) asked_new last

      pub done : (final : Outside) → final.openings ≡ with_name log 1 new.openings → (IsTrue old.tells → SameBut log new final) → (IsTrue old.tells → final.file log ≡ Some it.text) → IsDone workers script log old final it.summary
      done final last same held_log = record {
        plan = plan;
        files = play_files seen O.heads entries;
        opened = was_opened seen script name log old mid plan entries O own;
        asked = asked_last final last;
        told = told;
        held = λ tells.
            (let f = O.files_are tells in
            record {
              samples = f.0;
              files_are = f.1;
              told = told ∙ summary_is plan (play_files seen O.heads entries) f.0 (was_opened seen script name log old mid plan entries O own).ready (samples_of old plan (play_files seen O.heads entries) f.0 f.1);
              sinks = hold_sinks final tells (same tells) f.0 f.1;
              text = it.text;
              logged = held_log tells;
              log_is = log_of final tells (same tells);
              others = others_kept final tells (same tells);
            });
      }

      -- no call on a sink failed
      named_none : old.write_faults < 2 ^ 64 - 1 → new.failed_writes ≡ old.failed_writes
      named_none few = (H.closes).named (let same = (O.still).writes in omega (arith, few, same)) (H.unwritten calm_is.unwritten) ∙ (O.still).failed

      closed_whole : IsClosedWhole log plan (play_files seen O.heads entries) old new
      closed_whole = record {
        goes_on = goes;
        stand = stand;
        absences = absent_none;
        asked = asked_new;
        sinks = λ tells samples A. hold_sinks new tells (λ other n. refl) samples A;
        kept = λ tells. log_before new tells (λ other n. refl);
      }

      pub unlogged : (final : Outside) (fault : Fault) → GoesOn new final → IsLogFault log new final fault → (fault ≢ Faults.WriteFault → CountsStand old final) → (IsTrue old.tells → SameBut log new final) → (IsTrue old.tells → IsKeptOrFrontOf (new.file log) (final.file log) it.text) → IsLogFault log old final fault
          → (fault ≢ Faults.WriteFault → final.file log ≡ new.file log) → TellsAbsence Faults.Absent old final fault
          → (fault ≢ Faults.OutOfMemory → final.openings ≡ with_name log 1 new.openings) → (IsTrue old.tells → (times : ℕ) × (final.failed_writes ≡ with_name log times new.failed_writes)) → IsUnlogged workers script log old final fault
      unlogged final fault on since calm same front why kept unabsent asked failed = record {
        plan = plan;
        files = play_files seen O.heads entries;
        unabsent = unabsent;
        opened = was_opened seen script name log old mid plan entries O own;
        why = why;
        closed = new;
        whole = closed_whole;
        goes_on = on;
        since = since;
        asked = λ n. asked_last final (asked n);
        failed = λ tells few. (let f = failed tells in (f.0, f.1 ∙ ap (with_name log f.0) (named_none few)));
        others = same;
        stand = calm;
        left = λ tells.
            (let f = O.files_are tells in
            record {
              samples = f.0;
              files_are = f.1;
              sinks = hold_sinks final tells (same tells) f.0 f.1;
              text = it.text;
              log_is = log_of final tells (same tells);
              front = elim (front tells) [ inl k ↦ inl (k ∙ log_before final tells (same tells)) | inr k ↦ inr k ];
              others = others_kept final tells (same tells);
            });
        unmade = λ tells n. kept n ∙ log_before final tells (same tells);
      }

-- why the log wasn't written
pub log_why : (log text : List ℕ) (old new final : Outside) (refused : Refused) → GoesOn old new → CountsStand old new → HasWriteReason log new final refused → final.read_faults ≡ new.read_faults
    → (refused ≢ Refusals.Failed → final.write_faults ≡ new.write_faults) → IsLogFault log old final (fault_of_log refused)
log_why log text old new final Refusals.Absent on S R read stands =
    let n : Refusals.Absent ≢ Refusals.Failed = λ s. cc in (
      refl,
      later old.absences new.absences final.absences on.absences R.0,
      subst (λ (may : List ℕ → Bool). IsTrue (may log)) on.may_refuse R.1,
      record { reads = read ∙ S.reads; writes = stands n ∙ S.writes },
    )
log_why log text old new final Refusals.Failed on S R read stands = (later old.write_faults new.write_faults final.write_faults on.write_faults R, read ∙ S.reads)
log_why log text old new final Refusals.OutOfMemory on S R read stands = tt

-- unless it is a failed write, no count rose
pub log_calm : (old new final : Outside) (refused : Refused) → CountsStand old new → final.read_faults ≡ new.read_faults → (refused ≢ Refusals.Failed → final.write_faults ≡ new.write_faults) → fault_of_log refused ≢ Faults.WriteFault → CountsStand old final
log_calm old new final refused S read stands n = record { reads = read ∙ S.reads; writes = stands (λ same. n (ap fault_of_log same)) ∙ S.writes }

pub stays : (now : Outside) → GoesOn now now
stays now = record { tells = refl; ends = refl; may_refuse = refl; read_faults = omega arith; write_faults = omega arith; absences = omega arith }

-- a log that is absent is told so
pub log_told : (old new final : Outside) (refused : Refused) → AbsencesStand old new → (refused ≢ Refusals.Absent → final.absences ≡ new.absences) → TellsAbsence Faults.Absent old final (fault_of_log refused)
log_told old new final refused before stands = λ none. stands (λ e. none Log (ap fault_of_log e)) ∙ before

-- unless a write failed, its name is as before
pub unmade_by : (log : List ℕ) (new final : Outside) (refused : Refused) → HasWriteReason log new final refused → fault_of_log refused ≢ Faults.WriteFault → final.file log ≡ new.file log
unmade_by log new final Refusals.Absent R n = ap (λ (f : List ℕ → Option (List ℕ)). f log) R.2
unmade_by log new final Refusals.Failed R n = absurd (n refl)
unmade_by log new final Refusals.OutOfMemory R n = ap (λ (f : List ℕ → Option (List ℕ)). f log) R
