-- Where no read failed, an audit tells the fault that the files ask for, or memory was wanting.
use Rattle.std.proofs.Common.{◌≡◌, ◌≢◌, ◌⊎◌, inl, inr, ℕ, ◌<◌, ◌≤◌, List, length, slice_get, Option, Some, Result, Ok, Err, IfErr, IfOk, IsSome, IsTrue, ap, sym, subst, refl, ◌∙◌, arith}
use Rattle.std.proofs.lemmas.Bool.{cases_lt}
use Rattle.std.proofs.lemmas.Option.{slice_get_within}
use Rattle.omx_types.specs.declared.fault.Fault.{Fault}
use Rattle.omx_types.specs.declared.fault.Fault.TheVariants as Faults
use Rattle.outside_io.specs.Files.{Outside}
use Rattle.wav_form.specs.declared.heads.WavHead.{WavHead}
use Rattle.script_lang.specs.declared.play_line.PartLine.{PartLine}
use Rattle.script_lang.specs.declared.script.Script.{Script}
use Rattle.script_lang.specs.declared.script.Script.TheVariants.{Play, Trace}
use Rattle.play_forms.specs.declared.joint.Joint.{Joint}
use Rattle.play_forms.specs.declared.plan_fault.PlanFault.{PlanFault}
use Rattle.play_forms.specs.declared.plan_fault.PlanFault.TheVariants as Plans
use Rattle.play_forms.specs.Joints.{AllJoin, AllLinked, headers_of, joints_of}
use Rattle.play_forms.specs.Parts.{units_needed}
use Rattle.play_forms.specs.Placing.{IsOrder}
use Rattle.play_forms.specs.Plans.{IsFaultOfScript, IsFit, IsFitted, IsPlanOfScript, IsSameFault, IsValid, PlanValue}
use Rattle.play_forms.proofs.OneFault.{one_fault, planned_faultless}
use Rattle.play_forms.proofs.OneMisfit.{fit_faultless, one_misfit}
use Rattle.play_plan_laws.specs.Assemblies.{PlayFiles}
use Rattle.play_result_laws.specs.Files.{IsReader, IsWriter, read_by}
use Rattle.play_forms.specs.Faults.{fault_of_plan}
use Rattle.play_files.specs.Left.{HaveHeads, IsUnfit, IsUnplanned, IsUnread}
use Rattle.play_files.specs.Opening.{IsSourceFault}
use Rattle.play_files.proofs.FittedPlans.{fits_so, misfits_so, valid_of}
use Rattle.play_course.specs.Outcomes.{WasOpened}
use Rattle.play_course.specs.Settling.{parts_of}
use Rattle.audit_files.specs.Left.{IsKnownFault, IsUnmatched}
use Rattle.audit_forms.specs.Audited.{No, Verdict, Yes}
use Rattle.run_audit.specs.declared.auditing.AuditFault.{AuditFault}
use Rattle.run_audit.specs.declared.auditing.AuditFault.TheVariants as audits
use Rattle.run_audit.specs.Auditing.{AreFound, IsJudged, IsNotRun, IsUnaudited}
use Rattle.run_audit.specs.Faults.{Asks, AsksByFormats, AsksByLog, AsksByPlan, AsksBySink, AsksBySource, GiveHeads, IsFitBy, TellsOrMemory}
use Rattle.run_audit.proofs.FaultOfFile.{IsCalm, IsOr, bad_headless, head_given, known_absent, known_given, log_bad, log_unread, none_there, source_bad}
use Rattle.play_course.proofs.Logged.{parts_so}

-- ---- plans

-- a valid plan stays valid with what goes through its links
pub fitted_valid : (planned fitted : PlanValue) (heads : List WavHead) → IsValid planned → IsFitted planned heads fitted → IsValid fitted
fitted_valid planned fitted heads V F =
    let parts = sym F.parts in
    let joints = sym F.joints in
    let order = sym F.order in
    let units = sym F.units in
    record {
      most = subst (λ (ps : List PartLine). length ps ≤ 32) parts V.most;
      joined = subst (λ (js : List Joint). AllJoin fitted.parts js) joints (subst (λ (ps : List PartLine). AllJoin ps planned.joints) parts V.joined);
      linked = subst (λ (js : List Joint). AllLinked fitted.parts js) joints (subst (λ (ps : List PartLine). AllLinked ps planned.joints) parts V.linked);
      few = subst (λ (js : List Joint). headers_of js ≤ 1024) joints V.few;
      placed = subst (λ (o : List ℕ). IsOrder fitted.joints (length fitted.parts) o) order
          (subst (λ (js : List Joint). IsOrder js (length fitted.parts) planned.order) joints (subst (λ (ps : List PartLine). IsOrder planned.joints (length ps) planned.order) parts V.placed));
      enough = subst (λ (u : ℕ). units_needed fitted.parts ≤ u) units (subst (λ (ps : List PartLine). units_needed ps ≤ planned.units) parts V.enough);
      flows = (F.flows).many ∙ ap length joints;
      frames = (F.frames).many ∙ ap length parts;
    }

-- a script with a plan has no fault of its shape, but want of memory
shape_last : (script : Script) (plan : PlanValue) (why : PlanFault) → IsPlanOfScript script plan → IsFaultOfScript script why → why ≡ Plans.OutOfMemory
shape_last (Play units parts links) plan why is fault = planned_faultless units parts links plan why is fault
shape_last (Trace units lines) plan why is fault = absurd is

shape_same : (script : Script) (a b : PlanFault) → IsFaultOfScript script a → IsFaultOfScript script b → IsSameFault a b
shape_same (Play units parts links) a b x y = one_fault units parts (joints_of parts links) a b x y
shape_same (Trace units lines) a b x y = absurd x

is_memory : (why : PlanFault) → (why ≡ Plans.OutOfMemory) ⊎ (why ≢ Plans.OutOfMemory)
is_memory Plans.OutOfMemory = inl refl
is_memory (Plans.Cycle line) = inr (λ e. cc)
is_memory (Plans.OpenPort line port) = inr (λ e. cc)
is_memory (Plans.PortTwice line) = inr (λ e. cc)
is_memory (Plans.TooMany line) = inr (λ e. cc)
is_memory (Plans.Units have need) = inr (λ e. cc)
is_memory (Plans.Wrong line) = inr (λ e. cc)
is_memory (Plans.Small line) = inr (λ e. cc)
is_memory (Plans.Differ line) = inr (λ e. cc)

module _ (script : Script) (log : List ℕ) (old new : Outside) (tells : IsTrue old.tells) (calm : IsCalm old new) (fault : Fault) where
  pub unplanned_memory : (plan : PlanValue) → IsPlanOfScript script plan → IsUnplanned script old new fault → fault ≡ Faults.OutOfMemory
  unplanned_memory plan is U = U.told ∙ ap fault_of_plan (shape_last script plan U.why is U.is)

  -- ---- the places of a plan's parts are those of the script's

  opened_parts : (plan : PlanValue) (files : PlayFiles) → WasOpened script old plan files → plan.parts ≡ parts_of script
  opened_parts plan files O = (O.fitted).parts ∙ parts_so script O.planned O.is_plan

  reads_there : (parts : List PartLine) (place : ℕ) (name : List ℕ) → parts ≡ parts_of script → IsReader parts place name → (place < length (parts_of script)) × IsReader (parts_of script) place name
  reads_there parts place name e R =
      let (part, there, reads) = subst (λ (ps : List PartLine). IsReader ps place name) e R in
      (slice_get_within (parts_of script) place part there, (part, there, reads))

  pub writes_there : (parts : List PartLine) (place : ℕ) (name : List ℕ) → parts ≡ parts_of script → IsWriter parts place name → (place < length (parts_of script)) × IsWriter (parts_of script) place name
  writes_there parts place name e W =
      let (part, there, writes) = subst (λ (ps : List PartLine). IsWriter ps place name) e W in
      (slice_get_within (parts_of script) place part there, (part, there, writes))

  -- ---- no plan

  module _ (wanted : Fault) (A : AsksByPlan script wanted) where
    plan_never : (plan : PlanValue) → IsPlanOfScript script plan → ⊥
    plan_never plan is = A.2 (shape_last script plan A.0 is A.1)

    by_plan : IsUnaudited script log old new fault → IsOr fault wanted
    by_plan (inl (inl U)) = elim (is_memory U.why) [
      | inl m ↦ inr (U.told ∙ ap fault_of_plan m)
      | inr n ↦ inl (U.told ∙ (ap fault_of_plan (shape_same script U.why A.0 U.is A.1 n A.2) ∙ sym A.3))
    ]
    by_plan (inl (inr (planned, is, U))) = absurd (plan_never planned is)
    by_plan (inr (inl U)) = absurd (plan_never (U.opened).planned (U.opened).is_plan)
    by_plan (inr (inr U)) = absurd (plan_never (U.opened).planned (U.opened).is_plan)

  -- ---- a source that is at fault

  same_part : (a b : PartLine) (found : Option PartLine) → found ≡ Some a → found ≡ Some b → a ≡ b
  same_part a b found p q = let e : Some a ≡ Some b = sym p ∙ q in cc

  same_name : (a b : List ℕ) (found : Option (List ℕ)) → found ≡ Some a → found ≡ Some b → a ≡ b
  same_name a b found p q = let e : Some a ≡ Some b = sym p ∙ q in cc

  module _ (wanted : Fault) (A : AsksBySource script old wanted) where
    heads_never : (parts : List PartLine) (count : ℕ) (heads : List WavHead) → parts ≡ parts_of script → A.place < count → HaveHeads old parts count heads → ⊥
    heads_never parts count heads e low H =
        let (head, at, has) = H tells A.place A.name low (subst (λ (ps : List PartLine). IsReader ps A.place A.name) (sym e) (A.part, A.there, A.reads_file)) in
        bad_headless (A.part).line A.name old new tells calm wanted A.bad head has

    all_heads_never : (parts : List PartLine) (heads : List WavHead) → parts ≡ parts_of script → HaveHeads old parts (length parts) heads → ⊥
    all_heads_never parts heads e H = heads_never parts (length parts) heads e (slice_get_within parts A.place A.part (subst (λ (ps : List PartLine). slice_get ps A.place ≡ Some A.part) (sym e) A.there)) H

    -- the source at that place
    at_source : (place : ℕ) (part : PartLine) (name : List ℕ) → place ≡ A.place → slice_get (parts_of script) place ≡ Some part → read_by part.form ≡ Some name → IsSourceFault part.line name old new fault → IsOr fault wanted
    at_source place part name at there reads why =
        let same : part ≡ A.part = same_part part A.part (slice_get (parts_of script) A.place) (subst (λ (k : ℕ). slice_get (parts_of script) k ≡ Some part) at there) A.there in
        let named : name ≡ A.name = same_name name A.name (read_by (A.part).form) (subst (λ (p : PartLine). read_by p.form ≡ Some name) same reads) A.reads_file in
        let its : IsSourceFault (A.part).line A.name old new fault = subst (λ (p : PartLine). IsSourceFault p.line A.name old new fault) same (subst (λ (n : List ℕ). IsSourceFault part.line n old new fault) named why) in
        source_bad (A.part).line A.name old new tells calm fault wanted A.bad its

    source_met : (planned : PlanValue) → IsPlanOfScript script planned → IsUnread planned old new fault → IsOr fault wanted
    source_met planned is U =
        let M = U.met in
        let e = parts_so script planned is in
        let (low, (part, there, reads)) = reads_there planned.parts U.place M.name e (M.part, M.there, M.reads) in
        let here = subst (λ (ps : List PartLine). slice_get ps U.place ≡ Some M.part) e M.there in
        elim (cases_lt U.place A.place) [
          | inl lt ↦ inr (head_given (M.part).line M.name old new tells calm fault (A.before U.place M.name lt (part, there, reads)) (M.refused).why)
          | inr le ↦ elim (cases_lt A.place U.place) [
            | inl lt ↦ absurd (heads_never planned.parts U.place U.heads e lt U.before)
            | inr ge ↦ at_source U.place M.part M.name (omega (arith, le, ge)) here M.reads (M.refused).why
          ]
        ]

    by_source : IsUnaudited script log old new fault → IsOr fault wanted
    by_source (inl (inl U)) = inr (unplanned_memory A.plan A.is_plan U)
    by_source (inl (inr (planned, is, inl U))) = source_met planned is U
    by_source (inl (inr (planned, is, inr (inl U)))) = absurd (all_heads_never planned.parts U.heads (parts_so script planned is) U.have)
    by_source (inl (inr (planned, is, inr (inr U)))) = absurd (all_heads_never planned.parts U.heads (parts_so script planned is) U.have)
    by_source (inr (inl U)) = absurd (all_heads_never (U.plan).parts (U.files).heads (opened_parts U.plan U.files U.opened) (U.found).sources)
    by_source (inr (inr U)) = absurd (all_heads_never (U.plan).parts (U.files).heads (opened_parts U.plan U.files U.opened) (U.found).sources)

  -- ---- all sources have heads

  pub sources_memory : GiveHeads old (parts_of script) (length (parts_of script)) → (planned : PlanValue) → IsPlanOfScript script planned → IsUnread planned old new fault → fault ≡ Faults.OutOfMemory
  sources_memory give planned is U =
      let M = U.met in
      let (low, reader) = reads_there planned.parts U.place M.name (parts_so script planned is) (M.part, M.there, M.reads) in
      head_given (M.part).line M.name old new tells calm fault (give U.place M.name low reader) (M.refused).why

  -- where the plan fits, it isn't what was told to be unfit
  pub unfit_never : IsFitBy script old → (planned : PlanValue) → IsPlanOfScript script planned → IsUnfit planned old new fault → ⊥
  unfit_never F planned is U = fits_so script old F.fitted tells F.fits_to planned U.plan U.heads is U.have U.fitted F.fit U.why U.is

  module _ (wanted : Fault) (A : AsksByFormats script old wanted) where
    fit_never : (planned plan : PlanValue) (heads : List WavHead) → IsPlanOfScript script planned → HaveHeads old planned.parts (length planned.parts) heads → IsFitted planned heads plan → IsFit plan → ⊥
    fit_never planned plan heads is have fitted fit = fit_faultless plan A.why fit (misfits_so script old A.fitted tells A.fits_to planned plan heads is have fitted A.why A.misfits)

    opened_never : (plan : PlanValue) (files : PlayFiles) → WasOpened script old plan files → AreFound old plan files → ⊥
    opened_never plan files O F = fit_never O.planned plan files.heads O.is_plan (subst (λ (ps : List PartLine). HaveHeads old ps (length ps) files.heads) (O.fitted).parts F.sources) O.fitted O.fit

    by_formats : IsUnaudited script log old new fault → IsOr fault wanted
    by_formats (inl (inl U)) = inr (unplanned_memory (A.fits_to).planned (A.fits_to).is_plan U)
    by_formats (inl (inr (planned, is, inl U))) = inr (sources_memory A.sources planned is U)
    by_formats (inl (inr (planned, is, inr (inl U)))) =
        let V = fitted_valid planned U.plan U.heads (valid_of script planned is) U.fitted in
        let misfits = misfits_so script old A.fitted tells A.fits_to planned U.plan U.heads is U.have U.fitted A.why A.misfits in
        inl (U.told ∙ (ap fault_of_plan (one_misfit U.plan U.why A.why V U.is misfits) ∙ sym A.told))
    by_formats (inl (inr (planned, is, inr (inr U)))) = absurd (fit_never planned U.plan U.heads is U.have U.fitted U.fit)
    by_formats (inr (inl U)) = absurd (opened_never U.plan U.files U.opened U.found)
    by_formats (inr (inr U)) = absurd (opened_never U.plan U.files U.opened U.found)

  -- ---- the file of a sink isn't there

  module _ (wanted : Fault) (A : AsksBySink script old wanted) where
    sinks_never : (parts : List PartLine) (count : ℕ) → parts ≡ parts_of script → A.place < count → ((place : ℕ) (name : List ℕ) → place < count → IsWriter parts place name → IsSome (old.file name)) → ⊥
    sinks_never parts count e low there = none_there (old.file A.name) A.absent (there A.place A.name low (subst (λ (ps : List PartLine). IsWriter ps A.place A.name) (sym e) (A.part, A.there, A.writes_file)))

    found_never : (plan : PlanValue) (files : PlayFiles) → WasOpened script old plan files → AreFound old plan files → ⊥
    found_never plan files O F =
        let e = opened_parts plan files O in
        sinks_never plan.parts (length plan.parts) e (slice_get_within plan.parts A.place A.part (subst (λ (ps : List PartLine). slice_get ps A.place ≡ Some A.part) (sym e) A.there)) (F.sinks tells)

    at_sink : (place : ℕ) (part : PartLine) (name : List ℕ) → place ≡ A.place → slice_get (parts_of script) place ≡ Some part → IsKnownFault part.line name old new fault → IsOr fault wanted
    at_sink place part name at there why =
        let same : part ≡ A.part = same_part part A.part (slice_get (parts_of script) A.place) (subst (λ (k : ℕ). slice_get (parts_of script) k ≡ Some part) at there) A.there in
        let its = subst (λ (p : PartLine). IsKnownFault p.line name old new fault) same why in
        subst (IsOr fault) (sym A.told) (known_absent (A.part).line name old new tells calm fault its)

    sink_met : (planned : PlanValue) → IsPlanOfScript script planned → IsUnmatched planned old new fault → IsOr fault wanted
    sink_met planned is U =
        let e = (U.fitted).parts ∙ parts_so script planned is in
        let (low, writer) = writes_there (U.plan).parts U.place U.name e (U.part, U.there, U.writes) in
        let here = subst (λ (ps : List PartLine). slice_get ps U.place ≡ Some U.part) e U.there in
        elim (cases_lt U.place A.place) [
          | inl lt ↦ inr (known_given (U.part).line U.name old new tells calm fault (A.before U.place U.name lt writer) U.why)
          | inr le ↦ elim (cases_lt A.place U.place) [
            | inl lt ↦ absurd (sinks_never (U.plan).parts U.place e lt (U.before tells))
            | inr ge ↦ at_sink U.place U.part U.name (omega (arith, le, ge)) here U.why
          ]
        ]

    by_sink : IsUnaudited script log old new fault → IsOr fault wanted
    by_sink (inl (inl U)) = inr (unplanned_memory ((A.fits).fits_to).planned ((A.fits).fits_to).is_plan U)
    by_sink (inl (inr (planned, is, inl U))) = inr (sources_memory A.sources planned is U)
    by_sink (inl (inr (planned, is, inr (inl U)))) = absurd (unfit_never A.fits planned is U)
    by_sink (inl (inr (planned, is, inr (inr U)))) = sink_met planned is U
    by_sink (inr (inl U)) = absurd (found_never U.plan U.files U.opened U.found)
    by_sink (inr (inr U)) = absurd (found_never U.plan U.files U.opened U.found)

  -- ---- the log isn't there, or ends early

  module _ (wanted : Fault) (A : AsksByLog script log old wanted) where
    by_log : IsUnaudited script log old new fault → IsOr fault wanted
    by_log (inl (inl U)) = inr (unplanned_memory ((A.fits).fits_to).planned ((A.fits).fits_to).is_plan U)
    by_log (inl (inr (planned, is, inl U))) = inr (sources_memory A.sources planned is U)
    by_log (inl (inr (planned, is, inr (inl U)))) = absurd (unfit_never A.fits planned is U)
    by_log (inl (inr (planned, is, inr (inr U)))) =
        let (low, writer) = writes_there (U.plan).parts U.place U.name ((U.fitted).parts ∙ parts_so script planned is) (U.part, U.there, U.writes) in
        inr (known_given (U.part).line U.name old new tells calm fault (A.sinks U.place U.name low writer) U.why)
    by_log (inr (inl U)) = log_bad 0 log old new tells calm fault wanted A.bad U.why
    by_log (inr (inr U)) = absurd (log_unread 0 log old new tells calm wanted A.bad (U.log_there tells) (U.log_given tells))

  -- ---- whichever it is

  pub fault_asked : (wanted : Fault) → Asks script log old wanted → IsUnaudited script log old new fault → IsOr fault wanted
  fault_asked wanted (inl A) U = by_plan wanted A U
  fault_asked wanted (inr (inl A)) U = by_source wanted A U
  fault_asked wanted (inr (inr (inl A))) U = by_formats wanted A U
  fault_asked wanted (inr (inr (inr (inl A)))) U = by_sink wanted A U
  fault_asked wanted (inr (inr (inr (inr A)))) U = by_log wanted A U

  -- and then the log isn't judged
  pub unjudged : (wanted : Fault) → Asks script log old wanted → (verdict : Verdict) → IsJudged script log old new verdict → ⊥
  unjudged wanted (inl A) verdict J = plan_never wanted A (J.opened).planned (J.opened).is_plan
  unjudged wanted (inr (inl A)) verdict J = all_heads_never wanted A (J.plan).parts (J.files).heads (opened_parts J.plan J.files J.opened) (J.found).sources
  unjudged wanted (inr (inr (inl A))) verdict J = opened_never wanted A J.plan J.files J.opened J.found
  unjudged wanted (inr (inr (inr (inl A)))) verdict J = found_never wanted A J.plan J.files J.opened J.found
  unjudged wanted (inr (inr (inr (inr A)))) verdict J = log_unread 0 log old new tells calm wanted A.bad (J.log_there tells) (J.log_given tells)

pub told_asked : (script : Script) (log : List ℕ) (old new : Outside) → IsTrue old.tells → IsCalm old new → (result : Result ℕ AuditFault) → IfOk result (λ acts. IsJudged script log old new (Yes acts)) → IfErr result (IsNotRun script log old new)
    → (wanted : Fault) → Asks script log old wanted → TellsOrMemory result wanted
told_asked script log old new tells calm (Ok acts) judged other wanted A = absurd (unjudged script log old new tells calm wanted wanted A (Yes acts) judged)
told_asked script log old new tells calm (Err (audits.No line why)) judged other wanted A = absurd (unjudged script log old new tells calm wanted wanted A (No line why) other)
told_asked script log old new tells calm (Err (audits.Fault fault)) judged other wanted A = elim (fault_asked script log old new tells calm fault wanted A other) [
  | inl e ↦ inl (ap (λ (f : Fault). Err (audits.Fault f)) e)
  | inr e ↦ inr (ap (λ (f : Fault). Err (audits.Fault f)) e)
]
