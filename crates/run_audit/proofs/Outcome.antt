-- What an audit comes to.
use Rattle.std.proofs.Common.{◌≡◌, ◌≢◌, inl, inr, ℕ, ◌-◌, ◌<◌, ◌≤◌, ◌^◌, List, [], ◌∷◌, ◌++◌, length, slice_get, Option, Some, None, Result, Ok, Err, IfErr, IfOk, OnOk, IsSome, IsTrue, false, option_map, refl, sym, ◌∙◌, ap, subst, arith}
use Rattle.std.specs.List.{sum_by}
use Rattle.std.specs.Result.{is_ok}
use Rattle.omx_types.specs.declared.fault.Fault.{Fault}
use Rattle.omx_types.specs.declared.fault.Fault.TheVariants as Faults
use Rattle.omx_types.specs.declared.fault.Which.TheVariants.{Log}
use Rattle.outside_io.specs.declared.source.Source.{Ghosts as SourceGhosts}
use Rattle.outside_io.specs.declared.whole.Unread.{Unread}
use Rattle.outside_io.specs.declared.whole.Unread.TheVariants as reasons
use Rattle.outside_io.specs.Causes.{Rose}
use Rattle.outside_io.specs.Moves.{WhereTold}
use Rattle.outside_io.specs.Files.{AbsencesStand, CountsStand, GoesOn, Outside, TellsAbsence, with_names}
use Rattle.outside_io.specs.Whole.{HasReadReason, WasOpened as WasFound}
use Rattle.audio_parts.specs.declared.part_file.PartFile.{PartFile}
use Rattle.audio_parts.specs.declared.part_file.PartFile.TheVariants as files
use Rattle.script_lang.specs.PlayScripts.{IsPlayScript}
use Rattle.script_lang.specs.declared.script.Script.{Script}
use Rattle.play_forms.specs.Plans.{PlanValue}
use Rattle.play_files.specs.Asked.{HasAskedFor, read_names, written_names}
use Rattle.play_files.specs.Closing.{AreClosed, failed_reads}
use Rattle.play_files.specs.Seen.{SinkSeen, Writes, files_seen}
use Rattle.play_files.proofs.Asking.{asked_then}
use Rattle.play_files.proofs.Closings.{unread_names}
use Rattle.play_files.proofs.Stopped.{unseen_at}
use Rattle.play_course.specs.Outcomes.{WasOpened}
use Rattle.il_graph.specs.Shown.{offered}
use Rattle.compared_files.specs.Comparing.{ComparingValue}
use Rattle.audit_files.specs.Compared.{AreCompared, read_seen}
use Rattle.audit_files.specs.Left.{IsUncompared}
use Rattle.audit_forms.specs.Audited.{No, Verdict, Yes}
use Rattle.audit_forms.specs.Whole.{IsAudited}
use Rattle.audit_laws.specs.Played.{IsPlayedBy}
use Rattle.run_audit.specs.declared.auditing.AuditFault.{AuditFault}
use Rattle.run_audit.specs.declared.replaying.Replayed.{Replayed}
use Rattle.run_audit.specs.declared.replaying.Replayed.TheVariants as comes
use Rattle.run_audit.specs.Auditing.{AreFound, HasVerdict, IsJudged, IsLogFault, IsLogOfPlay, IsLogThere, IsMetBy, IsNoPlayLog, IsNotRun, IsPlayRun, IsStepFault, IsUnaudited, fault_of_step, fault_of_unread, outcome_of}
use Rattle.run_audit.specs.Faults.{IsLogGiven}
use Rattle.run_audit.specs.Opening.{play_sight}
use Rattle.run_audit.specs.Replayed.{AreGiven, FilesComeBack, IsVerdictBy, OnFailure, OnVerdict}
use Rattle.run_audit.specs.Seeing.{compared}
use Rattle.run_audit.proofs.Causes as causes
use Rattle.run_audit.proofs.Judged as judged

-- ---- nothing was opened

module _ (script : Script) (old new : Outside) (fault : Fault) where
  pub unopened_goes : IsUncompared script old new fault → GoesOn old new
  unopened_goes (inl U) = (U.still).goes_on
  unopened_goes (inr (planned, is, inl U)) = ((U.met).refused).goes_on
  unopened_goes (inr (planned, is, inr (inl U))) = (U.still).goes_on
  unopened_goes (inr (planned, is, inr (inr U))) = U.goes_on

  pub unopened_files : IsUncompared script old new fault → new.file ≡ old.file
  unopened_files (inl U) = (U.still).files
  unopened_files (inr (planned, is, inl U)) = ((U.met).refused).files
  unopened_files (inr (planned, is, inr (inl U))) = (U.still).files
  unopened_files (inr (planned, is, inr (inr U))) = U.files

  pub unopened_writes : IsUncompared script old new fault → new.write_faults ≡ old.write_faults
  unopened_writes (inl U) = (U.still).writes
  unopened_writes (inr (planned, is, inl U)) = ((U.met).refused).writes
  unopened_writes (inr (planned, is, inr (inl U))) = (U.still).writes
  unopened_writes (inr (planned, is, inr (inr U))) = U.written

-- ---- what is given to the replay

pub given_so : {S : Type 0} (reads : SourceGhosts S) (script : Script) (old mid : Outside) (plan : PlanValue) (before : List (Option (PartFile S (ComparingValue S)))) (A : AreCompared reads script old mid plan before)
    (name lines text : List ℕ) → IsPlayScript name lines text script → (now : List (Option (PartFile S (ComparingValue S)))) → now ≡ before
    → AreGiven old.tells reads.told (offered reads.offset reads.size reads.told (compared reads).told) plan A.known (judged.sinks_of old.tells old plan) now
given_so reads script old mid plan before A name lines text is now e =
    subst (λ (fs : List (Option (PartFile _ (ComparingValue _)))). AreGiven old.tells reads.told (offered reads.offset reads.size reads.told (compared reads).told) plan A.known (judged.sinks_of old.tells old plan) fs) (sym e)
    (judged.given reads script old mid plan before A name lines text is)

-- what is known of the answer of an audit
pub record ComesTo (script : Script) (log : List ℕ) (old new : Outside) (result : Result ℕ AuditFault) : Type 0 where
  pub said : IfOk result (λ acts. HasVerdict script log old (Yes acts))
  pub yes : IfOk result (λ acts. IsJudged script log old new (Yes acts))
  pub other : IfErr result (IsNotRun script log old new)
  pub no_play : ((name log : List ℕ) (outside : Outside) (verdict other : Verdict) → IsAudited name log outside verdict → IsAudited name log outside other → other ≡ verdict)
      → ((P : IsLogOfPlay script log old) → (acts : ℕ) × IsAudited P.name log old (Yes acts)) → IfErr result (IsNoPlayLog script log old)

-- ---- the log

is_there : {held : Option (List ℕ)} {text : List ℕ} → held ≡ Some text → IsSome held
is_there {held} {text} e = subst (λ (o : Option (List ℕ)). IsSome o) (sym e) refl

module _ {S : Type 0} (reads : SourceGhosts S) (script : Script) (log : List ℕ) (old mid late new : Outside) (plan : PlanValue) (before after : List (Option (PartFile S (ComparingValue S)))) (A : AreCompared reads script old mid plan before)
    (goes : GoesOn mid late) (same_files : late.file ≡ mid.file) (same_writes : late.write_faults ≡ mid.write_faults) (C : AreClosed (files_seen (read_seen reads) after) late new (Ok tt)) where
  no_sink_seen : (file : Option (PartFile S (ComparingValue S))) (sink : SinkSeen) (frames : ℕ) → option_map (read_seen reads) file ≡ Some (Writes sink frames) → ⊥
  no_sink_seen (Some (files.From src format count)) sink frames e = cc
  no_sink_seen (Some (files.To snk count)) sink frames e = cc
  no_sink_seen None sink frames e = cc

  unwritten : (new.file ≡ late.file) × (new.write_faults ≡ late.write_faults) × (new.failed_writes ≡ late.failed_writes)
  unwritten = C.unwritten (λ place sink at. (let u = unseen_at (read_seen reads) after place (Some (Writes sink at.0)) at.1 in no_sink_seen u.0 sink at.0 u.2))

  pub new_files : new.file ≡ old.file
  new_files = unwritten.0 ∙ (same_files ∙ (A.still).files)

  pub new_writes : new.write_faults ≡ old.write_faults
  new_writes = unwritten.1 ∙ (same_writes ∙ (A.still).writes)

  opened : WasOpened script old plan A.known
  opened = judged.opened reads script old mid plan before A

  found : AreFound old plan A.known
  found = judged.found reads script old mid plan before A

  log_there : (IsTrue mid.tells → IsSome (mid.file log)) → IsLogThere log old
  log_there there t = subst (λ (f : List ℕ → Option (List ℕ)). IsSome (f log)) (A.still).files (there (((A.still).goes_on).tells ∙ t))

  -- ---- the log wasn't read

  log_why : (unread : Unread) → HasReadReason log (2 ^ 64 - 1) mid late unread → (IsTrue mid.tells → WasFound unread → IsSome (mid.file log)) → sum_by failed_reads (files_seen (read_seen reads) after) ≡ 0
      → IsLogFault log old new (fault_of_unread unread)
  log_why reasons.Absent r there calm =
      let a = (A.still).absences in
      let b = C.absences in
      (refl, subst (λ (n : ℕ). Rose n new.absences) a (subst (λ (n : ℕ). Rose mid.absences n) (sym b) r.0), ap (λ (f : List ℕ → Option (List ℕ)). f log) (sym (A.still).files) ∙ r.1)
  log_why reasons.Failed r there calm = record {
    rose = (let a = (A.still).reads in let b = (C.goes_on).read_faults in let rose = r.rose in omega (arith, rose, a, b));
    named = λ t.
        (let n = r.named (((A.still).goes_on).tells ∙ t) in
        (n.0, n.1, n.2, unread_names (files_seen (read_seen reads) after) late.failed_reads new.failed_reads calm C.named_reads ∙ (n.3 ∙ ap (with_names n.0) (A.still).unread)));
  }
  log_why (reasons.TooLong size) r there calm = tt
  log_why (reasons.Short at size) r there calm = (
    refl,
    record {
      below = r.below;
      stopped = λ end is. r.stopped end (ap (λ (f : List ℕ → Option ℕ). f log) ((A.still).goes_on).ends ∙ is);
      whole = λ bytes is. r.whole bytes (ap (λ (f : List ℕ → Option (List ℕ)). f log) (A.still).files ∙ is);
    },
    log_there (λ t. there t tt),
  )
  log_why reasons.OutOfMemory r there calm = tt

  log_absent : (unread : Unread) → (unread ≢ reasons.Absent → late.absences ≡ mid.absences) → TellsAbsence Faults.Absent old new (fault_of_unread unread)
  log_absent reasons.Absent k none = absurd (none Log refl)
  log_absent reasons.Failed k none = C.absences ∙ (k (λ e. cc) ∙ (A.still).absences)
  log_absent (reasons.TooLong size) k none = C.absences ∙ (k (λ e. cc) ∙ (A.still).absences)
  log_absent (reasons.Short at size) k none = C.absences ∙ (k (λ e. cc) ∙ (A.still).absences)
  log_absent reasons.OutOfMemory k none = C.absences ∙ (k (λ e. cc) ∙ (A.still).absences)

  pub unread_log : (unread : Unread) (fault : Fault) → fault ≡ fault_of_unread unread → HasReadReason log (2 ^ 64 - 1) mid late unread → (IsTrue mid.tells → WasFound unread → IsSome (mid.file log)) → ((unread ≢ reasons.Absent) → late.absences ≡ mid.absences)
      → ((unread ≢ reasons.OutOfMemory) → HasAskedFor mid late (log ∷ [])) → sum_by failed_reads (files_seen (read_seen reads) after) ≡ 0 → IsUnaudited script log old new fault
  unread_log unread fault is why there absences asked calm = subst (IsUnaudited script log old new) (sym is) (inr (inl (record {
    plan = plan;
    files = A.known;
    opened = opened;
    found = found;
    asked = λ n. C.openings ∙ asked_then old mid late (read_names plan.parts ++ written_names plan.parts) (log ∷ []) A.asked (asked (not_memory unread n));
    unabsent = log_absent unread absences;
    why = log_why unread why there calm;
  })))
    where
      not_memory : (u : Unread) → fault_of_unread u ≢ Faults.OutOfMemory → u ≢ reasons.OutOfMemory
      not_memory u n e = n (ap fault_of_unread e)

  -- ---- it was

  module _ (asked : HasAskedFor mid late (log ∷ [])) (absences : late.absences ≡ mid.absences) (still_reads : late.read_faults ≡ mid.read_faults) (still_names : late.failed_reads ≡ mid.failed_reads)
      (text : List ℕ) (held : IsTrue mid.tells → mid.file log ≡ Some text) (given : WhereTold (mid.ends log) (λ end. length text ≤ end)) where
    there : IsTrue mid.tells → IsSome (mid.file log)
    there t = is_there (held t)

    held_old : IsTrue old.tells → old.file log ≡ Some text
    held_old t = ap (λ (f : List ℕ → Option (List ℕ)). f log) (sym (A.still).files) ∙ held (((A.still).goes_on).tells ∙ t)

    all_given : IsTrue old.tells → IsLogGiven log old
    all_given t known is end at =
        let le = given end (ap (λ (f : List ℕ → Option ℕ). f log) ((A.still).goes_on).ends ∙ at) in
        let same : Some known ≡ Some text = sym is ∙ held_old t in
        let e : known ≡ text = cc in
        let long = ap length e in
        omega (arith, le, long)

    all_asked : HasAskedFor old new ((read_names plan.parts ++ written_names plan.parts) ++ log ∷ [])
    all_asked = C.openings ∙ asked_then old mid late (read_names plan.parts ++ written_names plan.parts) (log ∷ []) A.asked asked

    stood : AbsencesStand old new
    stood = C.absences ∙ (absences ∙ (A.still).absences)

    pub broken : (fault : Fault) → IsStepFault plan.parts old new fault → IsUnaudited script log old new fault
    broken fault why = inr (inr (record { plan = plan; files = A.known; opened = opened; found = found; log_there = log_there there; log_given = all_given; asked = all_asked; absences = stood; why = why }))

    -- the count rose while they were closed
    pub risen : late.read_faults < 2 ^ 64 → length after ≡ length before → FilesComeBack (play_sight reads) plan before after → (new.read_faults ≡ late.read_faults → ⊥) → IsUnaudited script log old new Faults.ReadFault
    risen few many back n =
        broken Faults.ReadFault
        (causes.risen reads script old mid plan before A late new after (still_reads ∙ (A.still).reads) (still_names ∙ (A.still).unread) few many back C n)

    pub counts : new.read_faults ≡ late.read_faults → CountsStand old new
    counts e = record { reads = e ∙ (still_reads ∙ (A.still).reads); writes = new_writes }

    pub judges : (verdict : Verdict) → HasVerdict script log old verdict → IsJudged script log old new verdict
    judges verdict V = record { plan = plan; files = A.known; opened = opened; found = found; log_there = log_there there; log_given = all_given; asked = all_asked; absences = stood; told = V }

    -- ---- what the replay came to

    module _ (name its : List ℕ) (lines : List ℕ) (is_script : IsPlayScript name lines its script) where
      pub verdict_of : (verdict : Verdict) → (IsTrue old.tells → IsVerdictBy plan A.known (judged.sinks_of old.tells old plan) text verdict) → HasVerdict script log old verdict
      verdict_of verdict V = judged.has_verdict reads script old mid plan before A log text verdict held_old V

      module _ (few : late.read_faults < 2 ^ 64) (replayed : Replayed) (V : IsTrue old.tells → OnVerdict replayed (IsVerdictBy plan A.known (judged.sinks_of old.tells old plan) text))
          (many : length after ≡ length before) (back : FilesComeBack (play_sight reads) plan before after) (failed : OnFailure (play_sight reads) plan before after replayed) (met : IsMetBy reads after replayed) where
        pub comes_to : ComesTo script log old new (outcome_of plan.parts after replayed)
        comes_to = by replayed V failed met
          where
            by : (r : Replayed) → (IsTrue old.tells → OnVerdict r (IsVerdictBy plan A.known (judged.sinks_of old.tells old plan) text)) → OnFailure (play_sight reads) plan before after r → IsMetBy reads after r → ComesTo script log old new (outcome_of plan.parts after r)
            by (comes.Yes acts) v f m = record { said = verdict_of (Yes acts) v; yes = judges (Yes acts) (verdict_of (Yes acts) v); other = tt; no_play = λ one law. tt }
            by (comes.No line why) v f m = record {
              said = tt;
              yes = tt;
              other = judges (No line why) (verdict_of (No line why) v);
              -- a play's log has a yes, and so no no
              no_play = λ one law tells P.
                  (let yes = law P in
                  let no = verdict_of (No line why) v tells P.name (P.is).text (P.is).held (subst (λ (s : Script). IsPlayScript P.name log (P.is).text s) P.read_so (P.is).is_script) in
                  let z : Yes yes.0 ≡ No line why = one P.name log old (No line why) (Yes yes.0) no yes.1 in
                  cc);
            }
            by (comes.Failed component fault) v f m = record {
              said = tt;
              yes = tt;
              other = broken (fault_of_step (slice_get plan.parts component) (slice_get after component) fault)
                  (causes.step_cause reads script old mid plan before A late new after (still_reads ∙ (A.still).reads) (still_names ∙ (A.still).unread) few many back C component fault f.0 f.1 m);
              no_play = λ one law. tt;
            }
            by comes.OutOfMemory v f m = record { said = tt; yes = tt; other = broken Faults.OutOfMemory tt; no_play = λ one law. tt }

-- ---- the theorem

pub on_ok : (result : Result ℕ AuditFault) (P : Type 0) → P → OnOk result P
on_ok (Ok acts) P p = p
on_ok (Err fault) P p = tt

pub not_ok : (result : Result ℕ AuditFault) (P : Type 0) → is_ok result ≡ false → OnOk result P
not_ok (Ok acts) P e = absurd cc
not_ok (Err fault) P e = tt

played_by : (script : Script) (log : List ℕ) (old : Outside) (acts : ℕ)
    → ((name log : List ℕ) (outside : Outside) (acts : ℕ) → (audited : IsAudited name log outside (Yes acts)) → IsPlayedBy audited.plan audited.files audited.samples outside audited.text acts)
    → HasVerdict script log old (Yes acts) → IsPlayRun script log old acts
played_by script log old acts law V tells name text held is_script = (let a = V tells name text held is_script in (a, law name log old acts a))

pub is_run : (script : Script) (log : List ℕ) (old : Outside) (result : Result ℕ AuditFault)
    → ((name log : List ℕ) (outside : Outside) (acts : ℕ) → (audited : IsAudited name log outside (Yes acts)) → IsPlayedBy audited.plan audited.files audited.samples outside audited.text acts)
    → IfOk result (λ acts. HasVerdict script log old (Yes acts)) → IfOk result (IsPlayRun script log old)
is_run script log old (Ok acts) law V = played_by script log old acts law V
is_run script log old (Err fault) law V = tt
