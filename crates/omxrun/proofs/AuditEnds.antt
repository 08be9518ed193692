-- Where all is told and given whole and no count rises, the check of a log comes to its verdict.
use Rattle.std.proofs.Common.{◌≡◌, ◌⊎◌, inl, inr, ℕ, List, Option, Result, Ok, Err, IsTrue, ap, subst, refl, ◌∙◌}
use Rattle.outside_io.specs.Files.{Outside}
use Rattle.omx_types.specs.declared.fault.AuditWhy.{AuditWhy}
use Rattle.omx_types.specs.declared.fault.Fault.{Fault}
use Rattle.omx_types.specs.declared.fault.Fault.TheVariants as Faults
use Rattle.omx_types.specs.declared.fault.Status.{Status}
use Rattle.omx_types.specs.declared.fault.Status.TheVariants as Statuses
use Rattle.script_lang.specs.declared.play_line.PartLine.{PartLine}
use Rattle.script_lang.specs.declared.script.Script.{Script}
use Rattle.play_forms.specs.Plans.{IsFit, PlanValue}
use Rattle.play_result_laws.specs.Files.{IsReader, IsWriter}
use Rattle.play_files.specs.Left.{IsFittedTo}
use Rattle.play_files.proofs.FittedPlans.{fits_so}
use Rattle.play_course.specs.Settling.{parts_of}
use Rattle.audit_files.specs.Left.{IsKnownFault}
use Rattle.audit_forms.specs.Audited.{Verdict, Yes, No}
use Rattle.audit_forms.specs.Whole.{IsAudited}
use Rattle.run_audit.specs.Auditing.{IsLogFault, IsStepFault, IsUnaudited}
use Rattle.omxrun.specs.Asked.{IsFaultless, IsGiven, IsOrMemory, IsSound}
use Rattle.omxrun.specs.Audits.{CanAudit, IsAuditOf, IsAuditOutcome, IsDecided, IsLeftByPlay, IsOfVerdict, IsUndecided, status_by}
use Rattle.omxrun.specs.Plays.{WasRead}
use Rattle.omxrun.specs.Reports.{IsReported}
use Rattle.omxrun.specs.declared.done.Done.{Done}
use Rattle.omxrun.proofs.AuditAsked.{is-yes, no-or-none}
use Rattle.omxrun.proofs.Complete.{ReadsOnce, none-some, told-status}
use Rattle.omxrun.proofs.PlayEnds.{IsCalm, PlansOnce, PlayOnce, calm-later, calm-of, fitted-in, given-later, read-same, reader-in, script-last, short-script, sound-last, sound-later, unplanned-last, writer-in}

-- ---- one file

known-last : (line : ℕ) (name bytes : List ℕ) (old new : Outside) (fault : Fault) → IsCalm old new → IsGiven old name bytes → IsKnownFault line name old new fault → fault ≡ Faults.OutOfMemory
known-last line name bytes old new (Faults.Script at why) calm given is = absurd is
known-last line name bytes old new Faults.Usage calm given is = absurd is
known-last line name bytes old new (Faults.BadMedia which wav) calm given is = absurd is
known-last line name bytes old new Faults.ReadFault calm given is = absurd (calm.read is.rose)
known-last line name bytes old new Faults.WriteFault calm given is = absurd is
known-last line name bytes old new (Faults.Absent which) calm given is = absurd (none-some bytes (old.file name) is.2 given.held)
known-last line name bytes old new Faults.OutOfMemory calm given is = refl
known-last line name bytes old new (Faults.Short which at size) calm given is = absurd is
known-last line name bytes old new (Faults.Units have need) calm given is = absurd is
known-last line name bytes old new (Faults.Packets reason) calm given is = absurd is
known-last line name bytes old new (Faults.NotRun at why) calm given is = absurd is

log-last : (log bytes : List ℕ) (old new : Outside) (fault : Fault) → IsCalm old new → IsGiven old log bytes → IsLogFault log old new fault → fault ≡ Faults.OutOfMemory
log-last log bytes old new (Faults.Script at why) calm given is = absurd is
log-last log bytes old new Faults.Usage calm given is = absurd is
log-last log bytes old new (Faults.BadMedia which wav) calm given is = absurd is
log-last log bytes old new Faults.ReadFault calm given is = absurd (calm.read is.rose)
log-last log bytes old new Faults.WriteFault calm given is = absurd is
log-last log bytes old new (Faults.Absent which) calm given is = absurd (none-some bytes (old.file log) is.2 given.held)
log-last log bytes old new Faults.OutOfMemory calm given is = refl
log-last log bytes old new (Faults.Short which at size) calm given is = absurd (short-script old log bytes at size given is.1)
log-last log bytes old new (Faults.Units have need) calm given is = absurd is
log-last log bytes old new (Faults.Packets reason) calm given is = absurd is
log-last log bytes old new (Faults.NotRun at why) calm given is = absurd is

-- each file that a component reads, or is compared with what it writes, is given whole
record AreGiven (old : Outside) (parts : List PartLine) : Type 0 where
  read : (place : ℕ) (name : List ℕ) → IsReader parts place name → (bytes : List ℕ) × IsGiven old name bytes
  written : (place : ℕ) (name : List ℕ) → IsWriter parts place name → (bytes : List ℕ) × IsGiven old name bytes

step-last : (parts : List PartLine) (old new : Outside) (fault : Fault) → IsCalm old new → AreGiven old parts → IsStepFault parts old new fault → fault ≡ Faults.OutOfMemory
step-last parts old new (Faults.Script at why) calm given is = absurd is
step-last parts old new Faults.Usage calm given is = absurd is
step-last parts old new (Faults.BadMedia which wav) calm given is = absurd is
step-last parts old new Faults.ReadFault calm given is = absurd (calm.read is.rose)
step-last parts old new Faults.WriteFault calm given is = absurd is
step-last parts old new (Faults.Absent which) calm given is = absurd is
step-last parts old new Faults.OutOfMemory calm given is = refl
step-last parts old new (Faults.Short which at size) calm given is = elim is.its [
  | inl reads ↦ let (bytes, g) = given.read is.place is.name (is.part, is.there, reads) in absurd (short-script old is.name bytes at size g is.short)
  | inr writes ↦ let (bytes, g) = given.written is.place is.name (is.part, is.there, writes) in absurd (short-script old is.name bytes at size g is.short)
]
step-last parts old new (Faults.Units have need) calm given is = absurd is
step-last parts old new (Faults.Packets reason) calm given is = absurd is
step-last parts old new (Faults.NotRun at why) calm given is = absurd is

-- ---- once the script was read

-- what is asked of the files of a script's plan
record IsLet (script : Script) (log : List ℕ) (mid : Outside) : Type 0 where
  tells : IsTrue mid.tells
  sources : (place : ℕ) (file : List ℕ) → IsReader (parts_of script) place file → IsSound mid file
  fitted : PlanValue
  fits_to : IsFittedTo script mid fitted
  fits : IsFit fitted
  sinks : (place : ℕ) (file : List ℕ) → IsWriter (parts_of script) place file → (bytes : List ℕ) × IsGiven mid file bytes
  written_log : List ℕ
  log_given : IsGiven mid log written_log

module _ (reads_once : ReadsOnce) (plans_once : PlansOnce) (script : Script) (log : List ℕ) (mid new : Outside) (fault : Fault) (calm : IsCalm mid new) (L : IsLet script log mid) where
  unaudited-last : IsUnaudited script log mid new fault → fault ≡ Faults.OutOfMemory
  unaudited-last (inl (inl U)) = unplanned-last plans_once script mid new fault (L.fits_to).planned (L.fits_to).is_plan U
  unaudited-last (inl (inr (planned, is, inl U))) =
      let M = U.met in
      sound-last reads_once (M.part).line M.name mid new fault L.tells calm (L.sources U.place M.name (reader-in script planned planned U.place M.name is refl (M.part, M.there, M.reads))) (M.refused).why
  unaudited-last (inl (inr (planned, is, inr (inl U)))) = absurd (fits_so script mid L.fitted L.tells L.fits_to planned U.plan U.heads is U.have U.fitted L.fits U.why U.is)
  unaudited-last (inl (inr (planned, is, inr (inr U)))) =
      let (bytes, g) = L.sinks U.place U.name (writer-in script planned U.plan U.place U.name is (U.fitted).parts (U.part, U.there, U.writes)) in
      known-last (U.part).line U.name bytes mid new fault calm g U.why
  unaudited-last (inr (inl U)) = log-last log L.written_log mid new fault calm L.log_given U.why
  unaudited-last (inr (inr U)) =
      let O = U.opened in
      let given : AreGiven mid (U.plan).parts = record {
        read = λ place file reader. (let s = L.sources place file (reader-in script O.planned U.plan place file O.is_plan (O.fitted).parts reader) in (s.0, s.2));
        written = λ place file writer. L.sinks place file (writer-in script O.planned U.plan place file O.is_plan (O.fitted).parts writer);
      } in
      step-last (U.plan).parts mid new fault calm given U.why

can-let : (name log : List ℕ) (old mid new : Outside) (script : Script) → WasRead name log old mid script → (can : CanAudit name log old) → script ≡ can.script → IsLet script log mid
can-let name log old mid new script W can e =
    let tells = (can.asked).tells in
    record {
      tells = (W.goes_on).tells ∙ tells;
      sources = λ place file reader. sound-later name log old mid new script W file (can.sources place file (subst (λ (s : Script). IsReader (parts_of s) place file) e reader));
      fitted = can.fitted;
      fits_to = fitted-in name log old mid new script W can.script can.fitted e can.fits_to;
      fits = can.fits;
      sinks = λ place file writer. (let (bytes, g) = can.sinks place file (subst (λ (s : Script). IsWriter (parts_of s) place file) e writer) in (bytes, given-later name log old mid new script W file bytes g));
      written_log = can.written_log;
      log_given = given-later name log old mid new script W log can.written_log can.log_given;
    }

-- ---- what is told

module _ (play_once : PlayOnce) (reads_once : ReadsOnce) (plans_once : PlansOnce) (name log : List ℕ) (old new : Outside) (before now : ℕ) (none : IsFaultless old new before now) (can : CanAudit name log old) where
  undecided-last : (fault : Fault) → IsUndecided name log old new fault → fault ≡ Faults.OutOfMemory
  undecided-last fault (inl reason) = script-last play_once name log old new can.script fault (calm-of old new before now none) can.asked reason
  undecided-last fault (inr (script, mid, W, U)) =
      unaudited-last reads_once plans_once script log mid new fault (calm-later name log old mid new script W before now none) (can-let name log old mid new script W can (read-same play_once name log old mid script can.script W can.asked)) U

  -- it is a no, or there is no verdict for want of memory
  abbrev IsNoOrMemory : Fault → Type 0
  IsNoOrMemory fault = ((line : ℕ) × (why : AuditWhy) × (fault ≡ Faults.NotRun line why) × IsDecided name log old new (No line why) × (IsTrue old.tells → IsLeftByPlay name log old → ⊥)) ⊎ (fault ≡ Faults.OutOfMemory)

  no-or-memory : (fault : Fault) → IsAuditOf name log old new (Err fault) → IsNoOrMemory fault
  no-or-memory fault is = elim (no-or-none name log old new fault is) [
    | inl (line, why, e, N) ↦ inl (line, why, e, N.0, N.1)
    | inr U ↦ inr (undecided-last fault U)
  ]

  module _ (told told_new : Option (List ℕ)) (status : Status) where
    pub complete_audit : (outcome : Result Done Fault) → IsAuditOutcome name log old new outcome → IsReported outcome told told_new before now status → IsOfVerdict name log old status
    complete_audit (Ok done) is told_is =
        let (acts, D) = is-yes name log old new done is.is in
        inl (Yes acts, D.told (can.asked).tells, told-status (Ok done) told told_new before now status none.print told_is)
    complete_audit (Err fault) is told_is =
        let s = told-status (Err fault) told told_new before now status none.print told_is in
        elim (no-or-memory fault is.is) [
          | inl (line, why, e, D, never) ↦ inl (No line why, D.told (can.asked).tells, s ∙ ap Statuses.Fault e)
          | inr e ↦ inr (s ∙ ap Statuses.Fault e)
        ]

    pub decided : ((one other : Verdict) → IsAudited name log old one → IsAudited name log old other → other ≡ one) → (verdict : Verdict) → IsAudited name log old verdict
        → (outcome : Result Done Fault) → IsAuditOutcome name log old new outcome → IsReported outcome told told_new before now status → IsOrMemory status (status_by verdict)
    decided one verdict A outcome is told_is = elim (complete_audit outcome is told_is) [
      | inl (found, F, s) ↦ inl (s ∙ ap status_by (one verdict found A F))
      | inr s ↦ inr s
    ]

    pub left_by_play : IsLeftByPlay name log old → (outcome : Result Done Fault) → IsAuditOutcome name log old new outcome → IsReported outcome told told_new before now status → IsOrMemory status Statuses.Ok
    left_by_play left (Ok done) is told_is = inl (told-status (Ok done) told told_new before now status none.print told_is)
    left_by_play left (Err fault) is told_is =
        let s = told-status (Err fault) told told_new before now status none.print told_is in
        elim (no-or-memory fault is.is) [
          | inl (line, why, e, D, never) ↦ absurd (never (can.asked).tells left)
          | inr e ↦ inr (s ∙ ap Statuses.Fault e)
        ]
