-- What the check of a log comes to, from before its script was read.
use Rattle.std.proofs.Common.{◌≡◌, ◌≢◌, inl, inr, ℕ, List, Option, Some, Result, Ok, Err, IsTrue, IfOk, IfErr, OnOk, ap, sym, subst, refl, ◌∙◌}
use Rattle.outside_io.specs.Files.{CountsStand, Outside}
use Rattle.omx_types.specs.declared.fault.AuditWhy.{AuditWhy}
use Rattle.omx_types.specs.declared.fault.Fault.{Fault}
use Rattle.omx_types.specs.declared.fault.Fault.TheVariants as Faults
use Rattle.script_lang.specs.PlayScripts.{IsPlayScript}
use Rattle.script_lang.specs.declared.script.Script.{Script}
use Rattle.play_forms.specs.declared.plan_fault.PlanFault.{PlanFault}
use Rattle.play_forms.specs.declared.plan_fault.PlanFault.TheVariants as Plans
use Rattle.play_result_laws.specs.Files.{IsNoSink, IsWriter}
use Rattle.play_forms.specs.Faults.{fault_of_plan}
use Rattle.play_files.specs.Names.{HaveOwnFiles}
use Rattle.play_course.specs.Settling.{parts_of}
use Rattle.audit_forms.specs.Audited.{Verdict, Yes, No}
use Rattle.run_audit.specs.Auditing.{IsJudged, IsLogOfPlay, IsNoPlayLog, IsNotRun, IsPlayRun, IsUnaudited}
use Rattle.run_audit.specs.Faults.{AreGivenToEnd}
use Rattle.run_audit.specs.declared.auditing.AuditFault.{AuditFault}
use Rattle.run_audit.specs.declared.auditing.AuditFault.TheVariants as Answers
use Rattle.omxrun.specs.Audits.{IsAuditOf, IsAuditOutcome, IsDecided, IsLeftByPlay, IsUndecided, outcome_of_audit}
use Rattle.omxrun.specs.Plays.{HasPlayReason, IsPlayIn, WasRead}
use Rattle.omxrun.specs.declared.done.Done.{Done}
use Rattle.omxrun.proofs.Absences.{IsAbsenceTold, none-before}
use Rattle.omxrun.proofs.Causes.{CountsStand-then}
use Rattle.omxrun.proofs.Complete.{same-text}
use Rattle.omxrun.proofs.Files.{files-kept}
use Rattle.omxrun.proofs.Lefts.{OwnNames}
use Rattle.omxrun.proofs.PlayEnds.{PlayOnce, one-script}
use Rattle.omxrun.proofs.SourceNames.{ReadNoLog, read_no_log}
use Rattle.omxrun.proofs.Verdicts.{at-name, audited-in, ends-in, names-in}

-- ---- there is no verdict

plan-never : (line : ℕ) (why : AuditWhy) (fault : PlanFault) → Faults.NotRun line why ≡ fault_of_plan fault → ⊥
plan-never line why Plans.OutOfMemory e = cc
plan-never line why (Plans.Cycle at) e = cc
plan-never line why (Plans.OpenPort at port) e = cc
plan-never line why (Plans.PortTwice at) e = cc
plan-never line why (Plans.TooMany at) e = cc
plan-never line why (Plans.Units have need) e = cc
plan-never line why (Plans.Wrong at) e = cc
plan-never line why (Plans.Small at) e = cc
plan-never line why (Plans.Differ at) e = cc

-- by no fault that is a no
unaudited-never : (script : Script) (log : List ℕ) (mid new : Outside) (line : ℕ) (why : AuditWhy) → IsUnaudited script log mid new (Faults.NotRun line why) → ⊥
unaudited-never script log mid new line why (inl (inl U)) = plan-never line why U.why U.told
unaudited-never script log mid new line why (inl (inr (planned, is, inl U))) = let M = U.met in (M.refused).why
unaudited-never script log mid new line why (inl (inr (planned, is, inr (inl U)))) = plan-never line why U.why U.told
unaudited-never script log mid new line why (inl (inr (planned, is, inr (inr U)))) = U.why
unaudited-never script log mid new line why (inr (inl U)) = U.why
unaudited-never script log mid new line why (inr (inr U)) = U.why

undecided-of : (name log : List ℕ) (old new : Outside) (fault : Fault) → IsUndecided name log old new fault → IsAuditOf name log old new (Err fault)
undecided-of name log old new (Faults.NotRun line why) (inl reason) = absurd reason
undecided-of name log old new (Faults.NotRun line why) (inr (script, mid, W, U)) = absurd (unaudited-never script log mid new line why U)
undecided-of name log old new (Faults.Script line why) U = U
undecided-of name log old new Faults.Usage U = U
undecided-of name log old new (Faults.BadMedia which wav) U = U
undecided-of name log old new Faults.ReadFault U = U
undecided-of name log old new Faults.WriteFault U = U
undecided-of name log old new (Faults.Absent which) U = U
undecided-of name log old new Faults.OutOfMemory U = U
undecided-of name log old new (Faults.Short which at size) U = U
undecided-of name log old new (Faults.Units have need) U = U
undecided-of name log old new (Faults.Packets reason) U = U

unaudited-told : (script : Script) (log : List ℕ) (mid new : Outside) (fault : Fault) → IsUnaudited script log mid new fault → IsAbsenceTold mid new fault
unaudited-told script log mid new fault (inl (inl U)) = λ _. (U.still).absences
unaudited-told script log mid new fault (inl (inr (planned, is, inl U))) = let M = U.met in (M.refused).unabsent
unaudited-told script log mid new fault (inl (inr (planned, is, inr (inl U)))) = λ _. (U.still).absences
unaudited-told script log mid new fault (inl (inr (planned, is, inr (inr U)))) = U.unabsent
unaudited-told script log mid new fault (inr (inl U)) = U.unabsent
unaudited-told script log mid new fault (inr (inr U)) = λ _. U.absences

pub unread-audit : (name log : List ℕ) (old new : Outside) (fault : Fault) → new.file ≡ old.file → new.write_faults ≡ old.write_faults → HasPlayReason name log old new fault → IsAbsenceTold old new fault → IsAuditOutcome name log old new (Err fault)
unread-audit name log old new fault same writes reason told = record {
  kept = same;
  unwritten = writes;
  unabsent = told;
  stand = tt;
  given = λ tells. tt;
  is = undecided-of name log old new fault (inl reason);
}

-- ---- a log that a play left

module _ (once : PlayOnce) (names : OwnNames) (name log : List ℕ) (old mid : Outside) (script : Script) (W : WasRead name log old mid script) (tells : IsTrue old.tells) (L : IsLeftByPlay name log old) where
  left-log : IsLogOfPlay script log mid
  left-log =
      let P = (L.played).played in
      let R = P.read in
      let D = P.done.1 in
      let O = D.opened in
      let H = D.held ((R.goes_on).tells ∙ L.tells) in
      let own = subst (HaveOwnFiles name log) (sym (O.fitted).parts) (names name log R.text P.script O.planned R.is O.is_plan) in
      let unread = subst (ReadNoLog log) (sym (O.fitted).parts) (read_no_log name log R.text P.script O.planned R.is O.is_plan) in
      let now : mid.file ≡ (L.after).file = W.files ∙ L.unchanged in
      let kept : (file : List ℕ) → file ≢ log → IsNoSink (D.plan).parts file → mid.file file ≡ (P.mid).file file = λ file other none. at-name mid.file (L.after).file file now ∙ H.others file other none in
      let held : mid.file name ≡ Some R.text = kept name (λ e. (L.allowed).apart (sym e)) (λ place writer. own.script_other place name writer refl) ∙ (at-name (P.mid).file (L.before).file name R.files ∙ R.held L.tells) in
      let text : R.text ≡ W.text = same-text R.text W.text (old.file name) (sym (at-name mid.file old.file name W.files) ∙ held) (W.held tells) in
      let same : P.script ≡ script = one-script once name log W.text P.script script (subst (λ (t : List ℕ). IsPlayScript name log t P.script) text R.is) W.is in
      record {
        name = name;
        plan = D.plan;
        files = D.files;
        samples = H.samples;
        workers = L.workers;
        text = H.text;
        is = record {
          text = R.text;
          read = P.script;
          planned = O.planned;
          held = held;
          is_script = R.is;
          is_plan = O.is_plan;
          fitted = O.fitted;
          fit = O.fit;
          files_are = files-kept mid P.mid (D.plan).parts D.files H.samples
              (λ place file reader. sym (kept file (unread place file reader) (λ other writer. own.sources other place file writer reader))) H.files_are;
        };
        read_so = same;
        ready = O.ready;
        few = (L.allowed).few_workers;
        held = at-name mid.file (L.after).file log now ∙ H.logged;
        short = L.short H.text (sym (at-name mid.file old.file log W.files) ∙ (at-name mid.file (L.after).file log now ∙ H.logged));
        sinks = λ place file writer. at-name mid.file (L.after).file file now ∙ H.sinks place file writer;
        log_is = record {
          ending = (H.log_is).ending;
          log = (H.log_is).log;
          ends = ends-in mid L.after (sym now) D.plan (H.log_is).ending (H.log_is).ends;
        };
      }

-- ---- the whole

pub decided-of : (name log : List ℕ) (old mid new : Outside) (script : Script) (verdict : Verdict) → WasRead name log old mid script → IsJudged script log mid new verdict → IsDecided name log old new verdict
decided-of name log old mid new script verdict W J = record {
  script = script;
  mid = mid;
  read = W;
  judged = J;
  log_given = λ tells known is end at. J.log_given ((W.goes_on).tells ∙ tells) known (at-name mid.file old.file log W.files ∙ is) end (ap (λ (f : List ℕ → Option ℕ). f log) (W.goes_on).ends ∙ at);
  told = λ tells. audited-in old mid W.files name log verdict (J.told ((W.goes_on).tells ∙ tells) name W.text (at-name mid.file old.file name W.files ∙ W.held tells) W.is);
}

module _ (once : PlayOnce) (names : OwnNames) (name log : List ℕ) (old mid new : Outside) (script : Script) (W : WasRead name log old mid script) (files : new.file ≡ mid.file) (writes : new.write_faults ≡ mid.write_faults) where
  -- what each sink's file gives, before the script was read
  given-before : IsTrue old.tells → (its : Script) → IsPlayIn name log old its → AreGivenToEnd script mid → AreGivenToEnd its old
  given-before tells its P given place file writer =
      let held : old.file name ≡ Some W.text = W.held tells in
      let text : P.bytes ≡ W.text = same-text P.bytes W.text (old.file name) P.held held in
      let same : its ≡ script = one-script once name log W.text its script (subst (λ (t : List ℕ). IsPlayScript name log t its) text P.is) W.is in
      λ known is end at. given place file (subst (λ (s : Script). IsWriter (parts_of s) place file) same writer)
      known (at-name mid.file old.file file W.files ∙ is) end (ap (λ (f : List ℕ → Option ℕ). f file) (W.goes_on).ends ∙ at)

  pub audit-outcome : (answer : Result ℕ AuditFault) → IfOk answer (λ acts. IsJudged script log mid new (Yes acts)) → OnOk answer (CountsStand mid new) → IfErr answer (IsNotRun script log mid new)
      → (IsTrue mid.tells → OnOk answer (AreGivenToEnd script mid)) → IfOk answer (IsPlayRun script log mid) → IfErr answer (IsNoPlayLog script log mid) → IsAuditOutcome name log old new (outcome_of_audit answer)
  audit-outcome (Ok acts) J stand other given plays never = record {
    kept = files ∙ W.files;
    unwritten = writes ∙ (W.stand).writes;
    unabsent = J.absences ∙ W.absences;
    stand = CountsStand-then old mid new W.stand stand;
    given = λ tells its P. given-before tells its P (given ((W.goes_on).tells ∙ tells));
    is = (
      decided-of name log old mid new script (Yes acts) W J,
      λ tells. names-in old mid W.files name log acts (plays ((W.goes_on).tells ∙ tells) name W.text (at-name mid.file old.file name W.files ∙ W.held tells) W.is),
    );
  }
  audit-outcome (Err (Answers.No line why)) judged stand J given plays never = record {
    kept = files ∙ W.files;
    unwritten = writes ∙ (W.stand).writes;
    unabsent = λ _. J.absences ∙ W.absences;
    stand = tt;
    given = λ tells. tt;
    is = (
      decided-of name log old mid new script (No line why) W J,
      λ tells left. never ((W.goes_on).tells ∙ tells) (left-log once names name log old mid script W tells left),
    );
  }
  audit-outcome (Err (Answers.Fault fault)) judged stand U given plays never = record {
    kept = files ∙ W.files;
    unwritten = writes ∙ (W.stand).writes;
    unabsent = none-before {T = Done} old mid new (Err fault) W.absences (unaudited-told script log mid new fault U);
    stand = tt;
    given = λ tells. tt;
    is = undecided-of name log old new fault (inr (script, mid, W, U));
  }
