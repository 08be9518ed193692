-- What a play leaves that wasn't done whole.
use Rattle.std.proofs.Common.{◌≡◌, ◌≢◌, inl, inr, ℕ, List, length, Option, Some, IsTrue, ap, sym, subst, refl, ◌∙◌, arith}
use Rattle.std.proofs.lemmas.Bool.{cases_lt}
use Rattle.std.proofs.Math.Seq.{take-length}
use Rattle.outside_io.specs.Files.{Outside}
use Rattle.omx_types.specs.declared.fault.Fault.{Fault}
use Rattle.omx_types.specs.declared.fault.Fault.TheVariants as Faults
use Rattle.omx_types.specs.declared.fault.Which.{Which}
use Rattle.omx_types.specs.declared.fault.Which.TheVariants as Files
use Rattle.script_lang.specs.PlayScripts.{IsPlayScript}
use Rattle.script_lang.specs.declared.play_line.PartLine.{PartLine}
use Rattle.script_lang.specs.declared.script.Script.{Script}
use Rattle.play_forms.specs.Plain.{sink_text}
use Rattle.play_forms.specs.Plans.{IsFit, IsFitted, IsPlanOfScript, PlanValue}
use Rattle.play_plan_laws.specs.Assemblies.{PlayFiles}
use Rattle.play_result_laws.specs.Files.{AreFiles}
use Rattle.play_result_laws.specs.Leaving.{IsBegun, IsLeft}
use Rattle.play_result_laws.specs.Results.{IsPlanIn}
use Rattle.play_files.specs.Left.{IsUnwritten}
use Rattle.play_files.specs.Names.{HaveOwnFiles}
use Rattle.play_files.specs.Opening.{IsSinkFault}
use Rattle.play_course.specs.Outcomes.{IsBroken, IsLogFault, IsRunFault, IsUndone, IsUnlogged}
use Rattle.omxrun.specs.Plays.{IsEarly, WasRead}
use Rattle.omxrun.proofs.Files.{files-before}

-- a sink's file is no other line's, and neither the script nor the log
abbrev pub OwnNames : Type 0
OwnNames = (script log text : List ℕ) (read : Script) (plan : PlanValue) → IsPlayScript script log text read → IsPlanOfScript read plan → HaveOwnFiles script log plan.parts

at-file : (name : List ℕ) (old mid new : Outside) → mid.file ≡ old.file → new.file name ≡ mid.file name → new.file name ≡ old.file name
at-file name old mid new same is = is ∙ ap (λ (f : List ℕ → Option (List ℕ)). f name) same

-- ---- faults that come late

not-script : (which : Which) (line : ℕ) → which ≡ Files.Line line → IsEarly (Faults.Absent which) → ⊥
not-script which line is early = subst (λ (w : Which). IsEarly (Faults.Absent w)) is early

not-short : (which : Which) (line at size : ℕ) → which ≡ Files.Line line → IsEarly (Faults.Short which at size) → ⊥
not-short which line at size is early = subst (λ (w : Which). IsEarly (Faults.Short w at size)) is early

not-log : (which : Which) → which ≡ Files.Log → IsEarly (Faults.Absent which) → ⊥
not-log which is early = subst (λ (w : Which). IsEarly (Faults.Absent w)) is early

sink-late : (line : ℕ) (name : List ℕ) (old new : Outside) (fault : Fault) → IsSinkFault line name old new fault → IsEarly fault → ⊥
sink-late line name old new (Faults.Script at_line why) is early = is
sink-late line name old new Faults.Usage is early = is
sink-late line name old new (Faults.BadMedia which wav) is early = is
sink-late line name old new Faults.ReadFault is early = is
sink-late line name old new Faults.WriteFault is early = early
sink-late line name old new (Faults.Absent which) is early = not-script which line is.0 early
sink-late line name old new Faults.OutOfMemory is early = early
sink-late line name old new (Faults.Short which at size) is early = is
sink-late line name old new (Faults.Units have need) is early = is
sink-late line name old new (Faults.Packets reason) is early = is
sink-late line name old new (Faults.NotRun at_line reason) is early = is

run-late : (parts : List PartLine) (old new : Outside) (fault : Fault) → IsRunFault parts old new fault → IsEarly fault → ⊥
run-late parts old new (Faults.Script at_line why) is early = is
run-late parts old new Faults.Usage is early = is
run-late parts old new (Faults.BadMedia which wav) is early = is
run-late parts old new Faults.ReadFault is early = early
run-late parts old new Faults.WriteFault is early = early
run-late parts old new (Faults.Absent which) is early = is
run-late parts old new Faults.OutOfMemory is early = early
run-late parts old new (Faults.Short which at size) is early = (let (place, part, name, there, reads, which_is, short, behind) = is.1 in not-short which part.line at size which_is early)
run-late parts old new (Faults.Units have need) is early = is
run-late parts old new (Faults.Packets reason) is early = is
run-late parts old new (Faults.NotRun at_line reason) is early = is

log-late : (log : List ℕ) (old new : Outside) (fault : Fault) → IsLogFault log old new fault → IsEarly fault → ⊥
log-late log old new (Faults.Script at_line why) is early = is
log-late log old new Faults.Usage is early = is
log-late log old new (Faults.BadMedia which wav) is early = is
log-late log old new Faults.ReadFault is early = is
log-late log old new Faults.WriteFault is early = early
log-late log old new (Faults.Absent which) is early = not-log which is.0 early
log-late log old new Faults.OutOfMemory is early = early
log-late log old new (Faults.Short which at size) is early = is
log-late log old new (Faults.Units have need) is early = is
log-late log old new (Faults.Packets reason) is early = is
log-late log old new (Faults.NotRun at_line reason) is early = is

-- ---- a script that was read

module _ (names : OwnNames) (name log : List ℕ) (old mid new : Outside) (script : Script) (W : WasRead name log old mid script) (fault : Fault) where
  plan-in : (planned plan : PlanValue) (files : PlayFiles) (samples : List (List ℕ)) → IsTrue old.tells → IsPlanOfScript script planned → IsFitted planned files.heads plan → IsFit plan → AreFiles mid plan.parts files samples → IsPlanIn name log old plan files samples
  plan-in planned plan files samples tells is fitted fit A = record {
    text = W.text;
    read = script;
    planned = planned;
    held = W.held tells;
    is_script = W.is;
    is_plan = is;
    fitted = fitted;
    fit = fit;
    files_are = files-before old mid plan.parts files samples W.files A;
  }

  own : (planned plan : PlanValue) → IsPlanOfScript script planned → plan.parts ≡ planned.parts → HaveOwnFiles name log plan.parts
  own planned plan is e = subst (HaveOwnFiles name log) (sym e) (names name log W.text script planned W.is is)

  unwritten-left : {workers : ℕ} (planned : PlanValue) → IsPlanOfScript script planned → IsTrue old.tells → IsUnwritten planned mid new fault → IsBegun workers name log old new
  unwritten-left planned is tells U =
      let f = U.files_are ((W.goes_on).tells ∙ tells) in
      let E = U.left ((W.goes_on).tells ∙ tells) in
      let O = own planned U.plan is (U.fitted).parts in
      record {
        plan = U.plan;
        files = U.files;
        samples = f.0;
        is = plan-in planned U.plan U.files f.0 tells is U.fitted U.fit f.1;
        sinks = λ place file w. elim (cases_lt place U.place) [
          | inl lt ↦ inr (0, E.sinks place file lt w)
          | inr le ↦ inl (at-file file old mid new W.files (E.others file (λ other b v. (let same = O.sinks other place file v w in omega (arith, same, b, le)))))
        ];
        log_is = inl (at-file log old mid new W.files (E.others log (λ other b v. O.log_other other log v refl)));
        others = λ other n none. at-file other old mid new W.files (E.others other (λ place b v. none place v));
      }

  broken-left : {workers : ℕ} → IsTrue old.tells → IsBroken script mid new fault → IsBegun workers name log old new
  broken-left tells B =
      let G = B.opened in
      let A = B.left ((W.goes_on).tells ∙ tells) in
      let O = own G.planned B.plan G.is_plan (G.fitted).parts in
      record {
        plan = B.plan;
        files = B.files;
        samples = A.samples;
        is = plan-in G.planned B.plan B.files A.samples tells G.is_plan G.fitted G.fit A.files_are;
        sinks = λ place file w. inr (A.sinks place file w);
        log_is = inl (at-file log old mid new W.files (A.others log (λ place v. O.log_other place log v refl)));
        others = λ other n none. at-file other old mid new W.files (A.others other none);
      }

  unlogged-left : {workers : ℕ} → IsTrue old.tells → IsUnlogged workers script log mid new fault → IsBegun workers name log old new
  unlogged-left tells U =
      let G = U.opened in
      let L = U.left ((W.goes_on).tells ∙ tells) in
      record {
        plan = U.plan;
        files = U.files;
        samples = L.samples;
        is = plan-in G.planned U.plan U.files L.samples tells G.is_plan G.fitted G.fit L.files_are;
        sinks = λ place file w. inr (length (sink_text U.plan L.samples place), L.sinks place file w ∙ ap Some (sym (take-length (sink_text U.plan L.samples place))));
        log_is = elim L.front [ inl same ↦ inl (at-file log old mid new W.files same) | inr front ↦ inr (L.sinks, (L.text, L.log_is, front)) ];
        others = λ other n none. at-file other old mid new W.files (L.others other n none);
      }

  pub undone-left : {workers : ℕ} → IsTrue old.tells → IsUndone workers script log mid new fault → IsLeft workers name log old new
  undone-left tells (inl (inl U)) = inl ((U.still).files ∙ W.files)
  undone-left tells (inl (inr (planned, is, inl U))) = let M = U.met in inl ((M.refused).files ∙ W.files)
  undone-left tells (inl (inr (planned, is, inr (inl U)))) = inl ((U.still).files ∙ W.files)
  undone-left tells (inl (inr (planned, is, inr (inr U)))) = inr (unwritten-left planned is tells U)
  undone-left tells (inr (inl B)) = inr (broken-left tells B)
  undone-left tells (inr (inr U)) = inr (unlogged-left tells U)

  pub undone-early : {workers : ℕ} → IsUndone workers script log mid new fault → IsEarly fault → new.file ≡ old.file
  undone-early (inl (inl U)) early = (U.still).files ∙ W.files
  undone-early (inl (inr (planned, is, inl U))) early = let M = U.met in (M.refused).files ∙ W.files
  undone-early (inl (inr (planned, is, inr (inl U)))) early = (U.still).files ∙ W.files
  undone-early (inl (inr (planned, is, inr (inr U)))) early = absurd (sink-late (U.part).line U.name mid new fault U.why early)
  undone-early (inr (inl B)) early = absurd (run-late (B.plan).parts mid new fault B.why early)
  undone-early (inr (inr U)) early = absurd (log-late log mid new fault U.why early)

  same-log : new.file ≡ mid.file → new.file log ≡ old.file log
  same-log same = ap (λ (f : List ℕ → Option (List ℕ)). f log) (same ∙ W.files)

  pub undone-log : {workers : ℕ} → IsTrue old.tells → IsUndone workers script log mid new fault → fault ≢ Faults.WriteFault → new.file log ≡ old.file log
  undone-log tells (inl (inl U)) n = same-log (U.still).files
  undone-log tells (inl (inr (planned, is, inl U))) n = let M = U.met in same-log (M.refused).files
  undone-log tells (inl (inr (planned, is, inr (inl U)))) n = same-log (U.still).files
  undone-log tells (inl (inr (planned, is, inr (inr U)))) n =
      let E = U.left ((W.goes_on).tells ∙ tells) in
      let O = own planned U.plan is (U.fitted).parts in
      at-file log old mid new W.files (E.others log (λ other b v. O.log_other other log v refl))
  undone-log tells (inr (inl B)) n =
      let G = B.opened in
      let A = B.left ((W.goes_on).tells ∙ tells) in
      let O = own G.planned B.plan G.is_plan (G.fitted).parts in
      at-file log old mid new W.files (A.others log (λ place v. O.log_other place log v refl))
  undone-log tells (inr (inr U)) n = at-file log old mid new W.files (U.unmade ((W.goes_on).tells ∙ tells) n)
