-- The check of a log that has a yes comes to a file that ends early, where there is one.
use Rattle.std.proofs.Common.{◌≡◌, ◌⊎◌, inl, inr, ℕ, ◌<◌, ◌≤◌, List, length, Option, Result, Ok, Err, IsSome, IsTrue, ap, sym, subst, refl, ◌∙◌, arith}
use Rattle.outside_io.specs.Files.{Outside}
use Rattle.omx_types.specs.declared.fault.Fault.{Fault}
use Rattle.omx_types.specs.declared.fault.Fault.TheVariants as Faults
use Rattle.omx_types.specs.declared.fault.Status.{Status}
use Rattle.omx_types.specs.declared.fault.Status.TheVariants as Statuses
use Rattle.omx_types.specs.declared.fault.Which.{Which}
use Rattle.script_lang.specs.declared.play_line.PartLine.{PartLine}
use Rattle.script_lang.specs.declared.script.Script.{Script}
use Rattle.play_course.specs.Settling.{parts_of}
use Rattle.audit_forms.specs.Audited.{Verdict, Yes, No}
use Rattle.audit_forms.specs.Whole.{IsAudited}
use Rattle.run_audit.specs.Auditing.{IsLogFault, IsStepFault, IsUnaudited}
use Rattle.run_audit.specs.Faults.{AreThere, GiveHeads, IsFitBy}
use Rattle.run_audit.proofs.FaultOfCall.{sources_memory, unfit_never, unplanned_memory, writes_there}
use Rattle.run_audit.proofs.FaultOfFile.{IsCalm, known_given, none_there}
use Rattle.play_course.proofs.Logged.{parts_so}
use Rattle.omxrun.specs.Asked.{IsFaultless}
use Rattle.omxrun.specs.AuditFaults.{HasCutSink, IsShortOrMemory}
use Rattle.omxrun.specs.Audits.{IsAuditOutcome, IsUndecided}
use Rattle.omxrun.specs.Reports.{IsReported}
use Rattle.omxrun.specs.declared.done.Done.{Done}
use Rattle.omxrun.proofs.AuditAsked.{fits-later, heads-later, no-or-none, there-later}
use Rattle.omxrun.proofs.Complete.{told-status}
use Rattle.omxrun.proofs.PlayEnds.{PlayOnce, calm-later, calm-of, read-same, script-last}

abbrev IsShort : Fault → Type 0
IsShort fault = ((which : Which) × (at : ℕ) × (size : ℕ) × (fault ≡ Faults.Short which at size)) ⊎ (fault ≡ Faults.OutOfMemory)

log-short : (log : List ℕ) (old new : Outside) (fault : Fault) → IsCalm old new → IsSome (old.file log) → IsLogFault log old new fault → IsShort fault
log-short log old new (Faults.Short which at size) calm there is = inl (which, at, size, refl)
log-short log old new Faults.ReadFault calm there is = absurd (calm is.rose)
log-short log old new (Faults.Absent which) calm there is = absurd (none_there (old.file log) is.2 there)
log-short log old new Faults.OutOfMemory calm there is = inr refl
log-short log old new (Faults.BadMedia which wav) calm there is = absurd is
log-short log old new (Faults.Script at why) calm there is = absurd is
log-short log old new Faults.Usage calm there is = absurd is
log-short log old new Faults.WriteFault calm there is = absurd is
log-short log old new (Faults.Units have need) calm there is = absurd is
log-short log old new (Faults.Packets reason) calm there is = absurd is
log-short log old new (Faults.NotRun at why) calm there is = absurd is

step-short : (parts : List PartLine) (old new : Outside) (fault : Fault) → IsCalm old new → IsStepFault parts old new fault → IsShort fault
step-short parts old new (Faults.Short which at size) calm is = inl (which, at, size, refl)
step-short parts old new Faults.ReadFault calm is = absurd (calm is.rose)
step-short parts old new Faults.OutOfMemory calm is = inr refl
step-short parts old new (Faults.Absent which) calm is = absurd is
step-short parts old new (Faults.BadMedia which wav) calm is = absurd is
step-short parts old new (Faults.Script at why) calm is = absurd is
step-short parts old new Faults.Usage calm is = absurd is
step-short parts old new Faults.WriteFault calm is = absurd is
step-short parts old new (Faults.Units have need) calm is = absurd is
step-short parts old new (Faults.Packets reason) calm is = absurd is
step-short parts old new (Faults.NotRun at why) calm is = absurd is

-- once the script was read
unaudited-short : (script : Script) (log : List ℕ) (mid new : Outside) (fault : Fault) → IsTrue mid.tells → IsCalm mid new → GiveHeads mid (parts_of script) (length (parts_of script)) → IsFitBy script mid → AreThere mid (parts_of script) (length (parts_of script)) → IsSome (mid.file log)
    → IsUnaudited script log mid new fault → IsShort fault
unaudited-short script log mid new fault tells calm give fits sinks there (inl (inl U)) = inr (unplanned_memory script log mid new tells calm fault (fits.fits_to).planned (fits.fits_to).is_plan U)
unaudited-short script log mid new fault tells calm give fits sinks there (inl (inr (planned, is, inl U))) = inr (sources_memory script log mid new tells calm fault give planned is U)
unaudited-short script log mid new fault tells calm give fits sinks there (inl (inr (planned, is, inr (inl U)))) = absurd (unfit_never script log mid new tells calm fault fits planned is U)
unaudited-short script log mid new fault tells calm give fits sinks there (inl (inr (planned, is, inr (inr U)))) =
    let (low, writer) = writes_there script log mid new tells calm fault (U.plan).parts U.place U.name ((U.fitted).parts ∙ parts_so script planned is) (U.part, U.there, U.writes) in
    inr (known_given (U.part).line U.name mid new tells calm fault (sinks U.place U.name low writer) U.why)
unaudited-short script log mid new fault tells calm give fits sinks there (inr (inl U)) = log-short log mid new fault calm there U.why
unaudited-short script log mid new fault tells calm give fits sinks there (inr (inr U)) = step-short (U.plan).parts mid new fault calm U.why

module _ (play_once : PlayOnce) (name log : List ℕ) (old new : Outside) (before now : ℕ) (none : IsFaultless old new before now) (cut : HasCutSink name log old) where
  undecided-short : (fault : Fault) → IsUndecided name log old new fault → IsShort fault
  undecided-short fault (inl reason) = inr (script-last play_once name log old new cut.script fault (calm-of old new before now none) cut.asked reason)
  undecided-short fault (inr (script, mid, W, U)) =
      let e : script ≡ cut.script = read-same play_once name log old mid script cut.script W cut.asked in
      let files = W.files in
      let ends = (W.goes_on).ends in
      let tells = (W.goes_on).tells in
      unaudited-short cut.script log mid new fault (tells ∙ (cut.asked).tells) ((calm-later name log old mid new script W before now none).read)
      (heads-later old mid files ends tells (parts_of cut.script) (length (parts_of cut.script)) cut.sources) (fits-later old mid files ends tells cut.script cut.fits) (there-later old mid files ends tells (parts_of cut.script) (length (parts_of cut.script)) cut.sinks)
      (subst (λ (f : List ℕ → Option (List ℕ)). IsSome (f log)) (sym files) cut.log_there)
      (subst (λ (s : Script). IsUnaudited s log mid new fault) e U)

  -- the log has a yes, by what the files tell
  module _ (acts : ℕ) (yes : IsAudited name log old (Yes acts)) (one : (a b : Verdict) → IsAudited name log old a → IsAudited name log old b → b ≡ a) (told told_new : Option (List ℕ)) (status : Status) where
    short-status : (fault : Fault) → status ≡ Statuses.Fault fault → IsShort fault → IsShortOrMemory status
    short-status fault s (inl (which, at, size, e)) = inl (which, at, size, s ∙ ap Statuses.Fault e)
    short-status fault s (inr e) = inr (s ∙ ap Statuses.Fault e)

    pub cut_audit : (outcome : Result Done Fault) → IsAuditOutcome name log old new outcome → IsReported outcome told told_new before now status → IsShortOrMemory status
    cut_audit (Ok done) is told_is =
        (let A = cut.asked in
        let given = is.given A.tells cut.script (record { bytes = A.text; held = (A.given).held; is = A.is }) in
        let long = given cut.place cut.file cut.writes_file cut.bytes cut.held cut.end cut.told_end in
        let early = cut.early in
        absurd (omega (arith, long, early)))
    cut_audit (Err fault) is told_is =
        let s = told-status (Err fault) told told_new before now status none.print told_is in
        elim (no-or-none name log old new fault is.is) [
          | inl (line, why, e, N) ↦ (let z : Yes acts ≡ No line why = one (No line why) (Yes acts) ((N.0).told (cut.asked).tells) yes in absurd cc)
          | inr U ↦ short-status fault s (undecided-short fault U)
        ]
