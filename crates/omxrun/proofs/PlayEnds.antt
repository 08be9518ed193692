-- Where all is told and no count rises, what a play comes to.
use Rattle.std.proofs.lemmas.Bool.{cases_lt}
use Rattle.std.proofs.lemmas.Option.{slice_get_within}
use Rattle.std.proofs.Common.{◌≡◌, ◌≢◌, ◌⊎◌, inl, inr, ℕ, ◌<◌, ◌≤◌, Bool, List, length, slice_get, Option, Some, Result, Ok, Err, IsTrue, IsFalse, ap, sym, subst, refl, ◌∙◌, arith}
use Rattle.outside_io.specs.Causes.{Rose}
use Rattle.outside_io.specs.Files.{Outside}
use Rattle.outside_io.specs.Whole.{IsShort}
use Rattle.omx_types.specs.declared.fault.Fault.{Fault}
use Rattle.omx_types.specs.declared.fault.Fault.TheVariants as Faults
use Rattle.omx_types.specs.declared.fault.Which.{Which}
use Rattle.omx_types.specs.declared.fault.Which.TheVariants as Files
use Rattle.omx_types.specs.declared.fault.ScriptWhy.{ScriptWhy}
use Rattle.omx_types.specs.declared.fault.Status.{Status}
use Rattle.omx_types.specs.declared.fault.Status.TheVariants as Statuses
use Rattle.omx_types.specs.declared.fault.WavFault.{WavFault}
use Rattle.script_lang.specs.LineByLine.{fault_at}
use Rattle.script_lang.specs.PlayScripts.{IsPlayScript, PlayBefore, PlayReadsAs, play_of}
use Rattle.script_lang.specs.declared.play_line.LinkLine.{LinkLine}
use Rattle.script_lang.specs.declared.play_line.PartLine.{PartLine}
use Rattle.script_lang.specs.declared.script.Script.{Script}
use Rattle.script_lang.specs.declared.script.Script.TheVariants.{Play, Trace}
use Rattle.script_lang.specs.declared.script.ScriptFault.{ScriptFault}
use Rattle.wav_form.specs.declared.heads.WavHead.{WavHead}
use Rattle.wav_form.specs.Reading.{Reads}
use Rattle.play_forms.specs.declared.joint.Joint.{Joint}
use Rattle.play_forms.specs.declared.plan_fault.PlanFault.{PlanFault}
use Rattle.play_forms.specs.declared.plan_fault.PlanFault.TheVariants as Plans
use Rattle.play_forms.specs.Joints.{joints_of}
use Rattle.play_forms.specs.Plans.{IsFaultOfScript, IsFit, IsFitFault, IsFitted, IsPlanOf, IsPlanOfScript, IsSameFault, IsShapeFault, IsValid, PlanValue}
use Rattle.play_plan_laws.specs.Assemblies.{PlayFiles}
use Rattle.play_result_laws.specs.Files.{AreFiles, IsReader, IsWriter, read_by}
use Rattle.play_forms.specs.Faults.{fault_of_plan}
use Rattle.play_files.specs.Left.{HaveHeads, IsFittedTo, IsUnplanned, IsUnread as IsUnopenedSource, IsUnfit, IsUnwritten}
use Rattle.play_files.specs.Opening.{IsShortHead, IsSinkFault, IsSourceFault}
use Rattle.play_course.specs.Outcomes.{IsLogFault, IsRunFault, IsUndone, WasOpened}
use Rattle.play_course.specs.Settling.{parts_of}
use Rattle.play_files.proofs.FittedPlans.{fits_so, fitted_later, misfits_so, valid_of}
use Rattle.run_audit.proofs.FaultOfCall.{fitted_valid}
use Rattle.omxrun.specs.Asked.{CanPlay, HasNoPlan, IsAsked, IsFaulty, IsFaultless, IsGiven, IsMisfitted, IsOrMemory, IsSound, IsUnread}
use Rattle.omxrun.specs.Plays.{HasPlayReason, IsPlayOutcome, IsPlayReported, IsUnplayed, WasRead, play_text}
use Rattle.omxrun.specs.Reports.{status_of}
use Rattle.omxrun.proofs.Files.{files-before}
use Rattle.omxrun.proofs.Complete.{ReadsOnce, err-same, none-some, printed-status, same-text, true-false}

-- a text comes to one outcome as a play
abbrev pub PlayOnce : Type 0
PlayOnce = (name log text : List ℕ) (one other : Result PlayBefore ScriptFault) → PlayReadsAs name log text one → PlayReadsAs name log text other → one ≡ other

-- a script with a plan has no fault but want of memory, and has one fault besides
abbrev pub PlansOnce : Type 0
PlansOnce = (units : ℕ) (parts : List PartLine) (links : List LinkLine) (plan : PlanValue) (fault : PlanFault) → IsPlanOf units parts links plan → IsShapeFault units parts (joints_of parts links) fault → fault ≡ Plans.OutOfMemory

abbrev pub FaultsOnce : Type 0
FaultsOnce = (units : ℕ) (parts : List PartLine) (joints : List Joint) (fault other : PlanFault) → IsShapeFault units parts joints fault → IsShapeFault units parts joints other → IsSameFault fault other

ok-same : (a b : PlayBefore) (one other : Result PlayBefore ScriptFault) → one ≡ Ok a → other ≡ Ok b → one ≡ other → a ≡ b
ok-same a b one other p q same = let e : Ok a ≡ Ok b = sym p ∙ (same ∙ q) in cc

pub one-script : PlayOnce → (name log text : List ℕ) (a b : Script) → IsPlayScript name log text a → IsPlayScript name log text b → a ≡ b
one-script once name log text a b (x, reads, is) (y, also, it) =
    let e : x ≡ y = ok-same x y (Ok x) (Ok y) refl refl (once name log text (Ok x) (Ok y) reads also) in
    let same = sym it in
    subst (λ (z : PlayBefore). a ≡ play_of z) e is ∙ same

no-play : PlayOnce → (name log text : List ℕ) (script : Script) (fault : ScriptFault) → IsPlayScript name log text script → PlayReadsAs name log text (Err fault) → ⊥
no-play once name log text script fault (x, reads, is) refused = let e = once name log text (Ok x) (Err fault) reads refused in cc

planned-parts : (script : Script) (plan : PlanValue) → IsPlanOfScript script plan → plan.parts ≡ parts_of script
planned-parts (Play units parts links) plan is = is.parts_of
planned-parts (Trace units lines) plan is = absurd is

-- a script with a plan has no fault of its shape, but want of memory
shape-last : PlansOnce → (script : Script) (plan : PlanValue) (why : PlanFault) → IsPlanOfScript script plan → IsFaultOfScript script why → why ≡ Plans.OutOfMemory
shape-last once (Play units parts links) plan why is fault = once units parts links plan why is fault
shape-last once (Trace units lines) plan why is fault = absurd is

-- no count rose
pub record IsCalm (old new : Outside) : Type 0 where
  pub read : Rose old.read_faults new.read_faults → ⊥
  pub write : Rose old.write_faults new.write_faults → ⊥

-- ---- one file

-- the faults of a source that is given whole, by what its bytes read as

short-given : (old : Outside) (name bytes : List ℕ) (at size : ℕ) → IsGiven old name bytes → IsTrue old.tells → IsShortHead name old at size → ⊥
short-given old name bytes at size given tells is =
    let S = is.stopped in
    let end = S.stopped given.end given.told_end in
    let (found, held, long) = is.whole tells in
    let same = ap length (same-text found bytes (old.file name) held given.held) in
    let below = S.below in
    let all = given.whole in
    let told = S.whole in
    omega (arith, end, same, below, all, long, told)

pub sound-last : ReadsOnce → (line : ℕ) (name : List ℕ) (old new : Outside) (fault : Fault) → IsTrue old.tells → IsCalm old new → IsSound old name → IsSourceFault line name old new fault → fault ≡ Faults.OutOfMemory
sound-last once line name old new (Faults.Script at_line why) tells calm (bytes, head, given, reads) is = absurd is
sound-last once line name old new Faults.Usage tells calm (bytes, head, given, reads) is = absurd is
sound-last once line name old new (Faults.BadMedia which wav) tells calm (bytes, head, given, reads) is =
    (let (found, held, other) = is.2 tells in
    let e = once bytes (Ok head) (Err wav) reads (subst (λ (b : List ℕ). Reads b (Err wav)) (same-text found bytes (old.file name) held given.held) other) in
    absurd cc)
sound-last once line name old new Faults.ReadFault tells calm (bytes, head, given, reads) is = absurd (calm.read is.rose)
sound-last once line name old new Faults.WriteFault tells calm (bytes, head, given, reads) is = absurd is
sound-last once line name old new (Faults.Absent which) tells calm (bytes, head, given, reads) is = absurd (none-some bytes (old.file name) is.2 given.held)
sound-last once line name old new Faults.OutOfMemory tells calm (bytes, head, given, reads) is = refl
sound-last once line name old new (Faults.Short which at size) tells calm (bytes, head, given, reads) is = absurd (short-given old name bytes at size given tells is.1)
sound-last once line name old new (Faults.Units have need) tells calm (bytes, head, given, reads) is = absurd is
sound-last once line name old new (Faults.Packets reason) tells calm (bytes, head, given, reads) is = absurd is
sound-last once line name old new (Faults.NotRun at_line reason) tells calm (bytes, head, given, reads) is = absurd is

faulty-last : ReadsOnce → (line : ℕ) (name bytes : List ℕ) (bad : WavFault) (old new : Outside) (fault : Fault) → IsTrue old.tells → IsCalm old new → IsGiven old name bytes → Reads bytes (Err bad) → IsSourceFault line name old new fault → (fault ≡ Faults.BadMedia (Files.Line line) bad) ⊎ (fault ≡ Faults.OutOfMemory)
faulty-last once line name bytes bad old new (Faults.Script at_line why) tells calm given reads is = absurd is
faulty-last once line name bytes bad old new Faults.Usage tells calm given reads is = absurd is
faulty-last once line name bytes bad old new (Faults.BadMedia which wav) tells calm given reads is =
    (let (found, held, other) = is.2 tells in
    let e = err-same wav bad (Err wav) refl (once bytes (Err wav) (Err bad) (subst (λ (b : List ℕ). Reads b (Err wav)) (same-text found bytes (old.file name) held given.held) other) reads) in
    inl (ap (λ (w : Which). Faults.BadMedia w wav) is.0 ∙ ap (Faults.BadMedia (Files.Line line)) e))
faulty-last once line name bytes bad old new Faults.ReadFault tells calm given reads is = absurd (calm.read is.rose)
faulty-last once line name bytes bad old new Faults.WriteFault tells calm given reads is = absurd is
faulty-last once line name bytes bad old new (Faults.Absent which) tells calm given reads is = absurd (none-some bytes (old.file name) is.2 given.held)
faulty-last once line name bytes bad old new Faults.OutOfMemory tells calm given reads is = inr refl
faulty-last once line name bytes bad old new (Faults.Short which at size) tells calm given reads is = absurd (short-given old name bytes at size given tells is.1)
faulty-last once line name bytes bad old new (Faults.Units have need) tells calm given reads is = absurd is
faulty-last once line name bytes bad old new (Faults.Packets reason) tells calm given reads is = absurd is
faulty-last once line name bytes bad old new (Faults.NotRun at_line reason) tells calm given reads is = absurd is

sink-last : (line : ℕ) (name : List ℕ) (old new : Outside) (fault : Fault) → IsCalm old new → IsFalse (old.may_refuse name) → IsSinkFault line name old new fault → fault ≡ Faults.OutOfMemory
sink-last line name old new (Faults.Script at_line why) calm let_in is = absurd is
sink-last line name old new Faults.Usage calm let_in is = absurd is
sink-last line name old new (Faults.BadMedia which wav) calm let_in is = absurd is
sink-last line name old new Faults.ReadFault calm let_in is = absurd is
sink-last line name old new Faults.WriteFault calm let_in is = absurd (calm.write is)
sink-last line name old new (Faults.Absent which) calm let_in is = absurd (true-false (old.may_refuse name) is.2 let_in)
sink-last line name old new Faults.OutOfMemory calm let_in is = refl
sink-last line name old new (Faults.Short which at size) calm let_in is = absurd is
sink-last line name old new (Faults.Units have need) calm let_in is = absurd is
sink-last line name old new (Faults.Packets reason) calm let_in is = absurd is
sink-last line name old new (Faults.NotRun at_line reason) calm let_in is = absurd is

log-last : (log : List ℕ) (old new : Outside) (fault : Fault) → IsCalm old new → IsFalse (old.may_refuse log) → IsLogFault log old new fault → fault ≡ Faults.OutOfMemory
log-last log old new (Faults.Script at_line why) calm let_in is = absurd is
log-last log old new Faults.Usage calm let_in is = absurd is
log-last log old new (Faults.BadMedia which wav) calm let_in is = absurd is
log-last log old new Faults.ReadFault calm let_in is = absurd is
log-last log old new Faults.WriteFault calm let_in is = absurd (calm.write is.0)
log-last log old new (Faults.Absent which) calm let_in is = absurd (true-false (old.may_refuse log) is.2 let_in)
log-last log old new Faults.OutOfMemory calm let_in is = refl
log-last log old new (Faults.Short which at size) calm let_in is = absurd is
log-last log old new (Faults.Units have need) calm let_in is = absurd is
log-last log old new (Faults.Packets reason) calm let_in is = absurd is
log-last log old new (Faults.NotRun at_line reason) calm let_in is = absurd is

-- the sources of the components are given whole
abbrev AreGiven : Outside → List PartLine → Type 0
AreGiven old parts = (place : ℕ) (name : List ℕ) → IsReader parts place name → (bytes : List ℕ) × IsGiven old name bytes

run-last : (parts : List PartLine) (old new : Outside) (fault : Fault) → IsCalm old new → AreGiven old parts → IsRunFault parts old new fault → fault ≡ Faults.OutOfMemory
run-last parts old new (Faults.Script at_line why) calm given is = absurd is
run-last parts old new Faults.Usage calm given is = absurd is
run-last parts old new (Faults.BadMedia which wav) calm given is = absurd is
run-last parts old new Faults.ReadFault calm given is = absurd (calm.read is.rose)
run-last parts old new Faults.WriteFault calm given is = absurd (calm.write is.0)
run-last parts old new (Faults.Absent which) calm given is = absurd is
run-last parts old new Faults.OutOfMemory calm given is = refl
run-last parts old new (Faults.Short which at size) calm given is =
    (let (place, part, name, there, reads, which_is, short, behind) = is.1 in
    let (bytes, g) = given place name (part, there, reads) in
    let end = short.stopped g.end g.told_end in
    let whole = short.whole bytes g.held in
    let below = short.below in
    let all = g.whole in
    absurd (omega (arith, end, whole, below, all)))
run-last parts old new (Faults.Units have need) calm given is = absurd is
run-last parts old new (Faults.Packets reason) calm given is = absurd is
run-last parts old new (Faults.NotRun at_line reason) calm given is = absurd is

-- ---- the script

pub short-script : (old : Outside) (name bytes : List ℕ) (at size : ℕ) → IsGiven old name bytes → IsShort name old at size → ⊥
short-script old name bytes at size given short =
    let end = short.stopped given.end given.told_end in
    let whole = short.whole bytes given.held in
    let below = short.below in
    let all = given.whole in
    omega (arith, end, whole, below, all)

-- the script is given whole, and is one
pub script-last : PlayOnce → (name log : List ℕ) (old new : Outside) (script : Script) (fault : Fault) → IsCalm old new → IsAsked name log old script → HasPlayReason name log old new fault → fault ≡ Faults.OutOfMemory
script-last once name log old new script (Faults.Script at_line why) calm asked is =
    (let N = is.1 asked.tells in
    absurd (no-play once name log asked.text script (fault_at at_line why) asked.is (subst (λ (b : List ℕ). PlayReadsAs name log b (Err (fault_at at_line why))) (same-text N.bytes asked.text (old.file name) N.held (asked.given).held) N.refused)))
script-last once name log old new script Faults.Usage calm asked is = absurd is
script-last once name log old new script (Faults.BadMedia which wav) calm asked is = absurd is
script-last once name log old new script Faults.ReadFault calm asked is = absurd (calm.read is.rose)
script-last once name log old new script Faults.WriteFault calm asked is = absurd is
script-last once name log old new script (Faults.Absent Files.Script) calm asked is = absurd (none-some asked.text (old.file name) is.1 (asked.given).held)
script-last once name log old new script (Faults.Absent Files.Log) calm asked is = absurd is
script-last once name log old new script (Faults.Absent (Files.Line line)) calm asked is = absurd is
script-last once name log old new script (Faults.Absent (Files.Made number)) calm asked is = absurd is
script-last once name log old new script (Faults.Absent Files.Input) calm asked is = absurd is
script-last once name log old new script (Faults.Absent Files.Output) calm asked is = absurd is
script-last once name log old new script Faults.OutOfMemory calm asked is = refl
script-last once name log old new script (Faults.Short Files.Script at size) calm asked is = absurd (short-script old name asked.text at size asked.given is.1)
script-last once name log old new script (Faults.Short Files.Log at size) calm asked is = absurd is
script-last once name log old new script (Faults.Short (Files.Line line) at size) calm asked is = absurd is
script-last once name log old new script (Faults.Short (Files.Made number) at size) calm asked is = absurd is
script-last once name log old new script (Faults.Short Files.Input at size) calm asked is = absurd is
script-last once name log old new script (Faults.Short Files.Output at size) calm asked is = absurd is
script-last once name log old new script (Faults.Units have need) calm asked is = absurd is
script-last once name log old new script (Faults.Packets reason) calm asked is = absurd is
script-last once name log old new script (Faults.NotRun at_line reason) calm asked is = absurd is

one-fault : (a b : ScriptFault) (one other : Result PlayBefore ScriptFault) → one ≡ Err a → other ≡ Err b → one ≡ other → a ≡ b
one-fault a b one other p q same = let e : Err a ≡ Err b = sym p ∙ (same ∙ q) in cc

-- it is none, by this fault
pub unread-last : PlayOnce → (name log : List ℕ) (old new : Outside) (line : ℕ) (bad : ScriptWhy) (fault : Fault) → IsCalm old new → IsUnread name log old line bad → HasPlayReason name log old new fault → (fault ≡ Faults.Script line bad) ⊎ (fault ≡ Faults.OutOfMemory)
unread-last once name log old new line bad (Faults.Script at_line why) calm has is =
    (let N = is.1 has.tells in
    let e = one-fault (fault_at at_line why) (fault_at line bad) (Err (fault_at at_line why)) (Err (fault_at line bad)) refl refl (once name log has.bytes (Err (fault_at at_line why)) (Err (fault_at line bad)) (subst (λ (b : List ℕ). PlayReadsAs name log b (Err (fault_at at_line why))) (same-text N.bytes has.bytes (old.file name) N.held (has.given).held) N.refused) has.refused) in
    inl (ap (λ (f : ScriptFault). Faults.Script f.line f.why) e))
unread-last once name log old new line bad Faults.Usage calm has is = absurd is
unread-last once name log old new line bad (Faults.BadMedia which wav) calm has is = absurd is
unread-last once name log old new line bad Faults.ReadFault calm has is = absurd (calm.read is.rose)
unread-last once name log old new line bad Faults.WriteFault calm has is = absurd is
unread-last once name log old new line bad (Faults.Absent Files.Script) calm has is = absurd (none-some has.bytes (old.file name) is.1 (has.given).held)
unread-last once name log old new line bad (Faults.Absent Files.Log) calm has is = absurd is
unread-last once name log old new line bad (Faults.Absent (Files.Line other)) calm has is = absurd is
unread-last once name log old new line bad (Faults.Absent (Files.Made number)) calm has is = absurd is
unread-last once name log old new line bad (Faults.Absent Files.Input) calm has is = absurd is
unread-last once name log old new line bad (Faults.Absent Files.Output) calm has is = absurd is
unread-last once name log old new line bad Faults.OutOfMemory calm has is = inr refl
unread-last once name log old new line bad (Faults.Short Files.Script at size) calm has is = absurd (short-script old name has.bytes at size has.given is.1)
unread-last once name log old new line bad (Faults.Short Files.Log at size) calm has is = absurd is
unread-last once name log old new line bad (Faults.Short (Files.Line other) at size) calm has is = absurd is
unread-last once name log old new line bad (Faults.Short (Files.Made number) at size) calm has is = absurd is
unread-last once name log old new line bad (Faults.Short Files.Input at size) calm has is = absurd is
unread-last once name log old new line bad (Faults.Short Files.Output at size) calm has is = absurd is
unread-last once name log old new line bad (Faults.Units have need) calm has is = absurd is
unread-last once name log old new line bad (Faults.Packets reason) calm has is = absurd is
unread-last once name log old new line bad (Faults.NotRun at_line reason) calm has is = absurd is

-- ---- the sources of a plan, at each moment

-- the file of that name has this head, and is given whole
sound-head : (old : Outside) (name bytes : List ℕ) (bad : WavFault) → ReadsOnce → IsGiven old name bytes → Reads bytes (Err bad) → (found : List ℕ) (head : WavHead) → old.file name ≡ Some found → Reads found (Ok head) → ⊥
sound-head old name bytes bad once given reads found head held good =
    let e = once bytes (Ok head) (Err bad) (subst (λ (b : List ℕ). Reads b (Ok head)) (same-text found bytes (old.file name) held given.held) good) reads in
    absurd cc

-- a script that was read is as it was told, and so is each file
module _ (name log : List ℕ) (old mid new : Outside) (script : Script) (W : WasRead name log old mid script) where
  pub given-later : (file bytes : List ℕ) → IsGiven old file bytes → IsGiven mid file bytes
  given-later file bytes G = record {
    held = ap (λ (f : List ℕ → Option (List ℕ)). f file) W.files ∙ G.held;
    end = G.end;
    told_end = ap (λ (f : List ℕ → Option ℕ). f file) (W.goes_on).ends ∙ G.told_end;
    whole = G.whole;
  }

  pub sound-later : (file : List ℕ) → IsSound old file → IsSound mid file
  sound-later file (bytes, head, G, reads) = (bytes, head, given-later file bytes G, reads)

  refuse-later : (file : List ℕ) → IsFalse (old.may_refuse file) → IsFalse (mid.may_refuse file)
  refuse-later file f = subst (λ (may : List ℕ → Bool). IsFalse (may file)) (sym (W.goes_on).may_refuse) f

  pub fitted-in : (asked : Script) (fitted : PlanValue) → script ≡ asked → IsFittedTo asked old fitted → IsFittedTo script mid fitted
  fitted-in asked fitted e F = fitted_later script old mid fitted W.files (W.goes_on).tells (subst (λ (s : Script). IsFittedTo s old fitted) (sym e) F)

  pub calm-later : (before now : ℕ) → IsFaultless old new before now → IsCalm mid new
  calm-later before now N = record {
    read = subst (λ (n : ℕ). Rose n new.read_faults → ⊥) (sym (W.stand).reads) N.read;
    write = subst (λ (n : ℕ). Rose n new.write_faults → ⊥) (sym (W.stand).writes) N.write;
  }

-- ---- done whole

-- what is asked of the sources and the names of a script's plan
record IsLet (script : Script) (log : List ℕ) (mid : Outside) : Type 0 where
  tells : IsTrue mid.tells
  sources : (place : ℕ) (file : List ℕ) → IsReader (parts_of script) place file → IsSound mid file
  fitted : PlanValue
  fits_to : IsFittedTo script mid fitted
  fits : IsFit fitted
  sinks : (place : ℕ) (file : List ℕ) → IsWriter (parts_of script) place file → IsFalse (mid.may_refuse file)
  log_let_in : IsFalse (mid.may_refuse log)

pub reader-in : (script : Script) (planned plan : PlanValue) (place : ℕ) (file : List ℕ) → IsPlanOfScript script planned → plan.parts ≡ planned.parts → IsReader plan.parts place file → IsReader (parts_of script) place file
reader-in script planned plan place file is e r = subst (λ (ps : List PartLine). IsReader ps place file) (e ∙ planned-parts script planned is) r

pub writer-in : (script : Script) (planned plan : PlanValue) (place : ℕ) (file : List ℕ) → IsPlanOfScript script planned → plan.parts ≡ planned.parts → IsWriter plan.parts place file → IsWriter (parts_of script) place file
writer-in script planned plan place file is e w = subst (λ (ps : List PartLine). IsWriter ps place file) (e ∙ planned-parts script planned is) w

pub unplanned-last : PlansOnce → (script : Script) (mid new : Outside) (fault : Fault) (plan : PlanValue) → IsPlanOfScript script plan → IsUnplanned script mid new fault → fault ≡ Faults.OutOfMemory
unplanned-last once script mid new fault plan is U = U.told ∙ ap fault_of_plan (shape-last once script plan U.why is U.is)

module _ (reads_once : ReadsOnce) (plans_once : PlansOnce) (script : Script) (log : List ℕ) (mid new : Outside) (fault : Fault) (calm : IsCalm mid new) (L : IsLet script log mid) where
  planned-last : (planned : PlanValue) → IsPlanOfScript script planned → IsUnopenedSource planned mid new fault ⊎ IsUnfit planned mid new fault ⊎ IsUnwritten planned mid new fault → fault ≡ Faults.OutOfMemory
  planned-last planned is (inl U) =
      let M = U.met in
      sound-last reads_once (M.part).line M.name mid new fault L.tells calm (L.sources U.place M.name (reader-in script planned planned U.place M.name is refl (M.part, M.there, M.reads))) (M.refused).why
  planned-last planned is (inr (inl U)) = absurd (fits_so script mid L.fitted L.tells L.fits_to planned U.plan U.heads is U.have U.fitted L.fits U.why U.is)
  planned-last planned is (inr (inr U)) =
      sink-last (U.part).line U.name mid new fault calm (L.sinks U.place U.name (writer-in script planned U.plan U.place U.name is (U.fitted).parts (U.part, U.there, U.writes))) U.why

  undone-last : {workers : ℕ} → IsUndone workers script log mid new fault → fault ≡ Faults.OutOfMemory
  undone-last (inl (inl U)) = unplanned-last plans_once script mid new fault (L.fits_to).planned (L.fits_to).is_plan U
  undone-last (inl (inr (planned, is, U))) = planned-last planned is U
  undone-last (inr (inl B)) =
      let O = B.opened in
      run-last (B.plan).parts mid new fault calm (λ place file r. (let s = L.sources place file (reader-in script O.planned B.plan place file O.is_plan (O.fitted).parts r) in (s.0, s.2))) B.why
  undone-last (inr (inr U)) = log-last log mid new fault calm L.log_let_in U.why

can-let : (name log : List ℕ) (old mid new : Outside) (script : Script) → WasRead name log old mid script → (can : CanPlay name log old) → script ≡ can.script → IsLet script log mid
can-let name log old mid new script W can e =
    let tells = (can.asked).tells in
    record {
      tells = (W.goes_on).tells ∙ tells;
      sources = λ place file r. sound-later name log old mid new script W file (can.sources place file (subst (λ (s : Script). IsReader (parts_of s) place file) e r));
      fitted = can.fitted;
      fits_to = fitted-in name log old mid new script W can.script can.fitted e can.fits_to;
      fits = can.fits;
      sinks = λ place file w. refuse-later name log old mid new script W file (can.sinks_let_in place file (subst (λ (s : Script). IsWriter (parts_of s) place file) e w));
      log_let_in = refuse-later name log old mid new script W log can.log_let_in;
    }

-- the script that was read is the one that is told
pub read-same : PlayOnce → (name log : List ℕ) (old mid : Outside) (script asked : Script) → WasRead name log old mid script → IsAsked name log old asked → script ≡ asked
read-same once name log old mid script asked W A =
    one-script once name log A.text script asked (subst (λ (t : List ℕ). IsPlayScript name log t script) (same-text W.text A.text (old.file name) (W.held A.tells) (A.given).held) W.is) A.is

pub calm-of : (old new : Outside) (before now : ℕ) → IsFaultless old new before now → IsCalm old new
calm-of old new before now N = record { read = N.read; write = N.write }

play-status : (outcome : Result (List ℕ) Fault) (told told_new : Option (List ℕ)) (before now : ℕ) (status : Status) → (Rose before now → ⊥) → IsPlayReported outcome told told_new before now status → status ≡ status_of outcome
play-status outcome told told_new before now status print printed = printed-status (status_of outcome) (play_text outcome) told told_new before now status print printed

can-last : {workers : ℕ} → PlayOnce → ReadsOnce → PlansOnce → (name log : List ℕ) (old new : Outside) (before now : ℕ) (fault : Fault) → IsFaultless old new before now → CanPlay name log old → IsUnplayed workers name log old new fault → fault ≡ Faults.OutOfMemory
can-last play_once reads_once plans_once name log old new before now fault none can (inl (same, reason)) =
    script-last play_once name log old new can.script fault (calm-of old new before now none) can.asked reason
can-last play_once reads_once plans_once name log old new before now fault none can (inr (script, mid, W, U)) =
    let e = read-same play_once name log old mid script can.script W can.asked in
    undone-last reads_once plans_once script log mid new fault (calm-later name log old mid new script W before now none) (can-let name log old mid new script W can e) U

pub complete : {workers : ℕ} → PlayOnce → ReadsOnce → PlansOnce → (name log : List ℕ) (old new : Outside) (before now : ℕ) (told told_new : Option (List ℕ)) (outcome : Result (List ℕ) Fault) (status : Status) → IsPlayOutcome workers name log old new outcome → IsPlayReported outcome told told_new before now status → IsFaultless old new before now → CanPlay name log old → IsOrMemory status Statuses.Ok
complete play_once reads_once plans_once name log old new before now told told_new (Ok printed) status is told_is none can = inl (play-status (Ok printed) told told_new before now status none.print told_is)
complete play_once reads_once plans_once name log old new before now told told_new (Err fault) status is told_is none can =
    inr (play-status (Err fault) told told_new before now status none.print told_is ∙ ap Statuses.Fault (can-last play_once reads_once plans_once name log old new before now fault none can is.unplayed))

-- ---- a script with a fault

-- a status is that of this fault, or of want of memory
fault-status : (outcome : Fault) (wanted : Fault) (told told_new : Option (List ℕ)) (before now : ℕ) (status : Status) → (Rose before now → ⊥) → IsPlayReported (Err outcome) told told_new before now status → (outcome ≡ wanted) ⊎ (outcome ≡ Faults.OutOfMemory) → IsOrMemory status (Statuses.Fault wanted)
fault-status outcome wanted told told_new before now status print told_is (inl is) = inl (play-status (Err outcome) told told_new before now status print told_is ∙ ap Statuses.Fault is)
fault-status outcome wanted told told_new before now status print told_is (inr is) = inr (play-status (Err outcome) told told_new before now status print told_is ∙ ap Statuses.Fault is)

pub none-read : PlayOnce → (name log text : List ℕ) (old : Outside) (line : ℕ) (why : ScriptWhy) (script : Script) → IsTrue old.tells → (IsTrue old.tells → old.file name ≡ Some text) → IsPlayScript name log text script → IsUnread name log old line why → ⊥
none-read once name log text old line why script tells held is has =
    no-play once name log has.bytes script (fault_at line why) (subst (λ (t : List ℕ). IsPlayScript name log t script) (same-text text has.bytes (old.file name) (held tells) (has.given).held) is) has.refused

pub unread : {workers : ℕ} → PlayOnce → (name log : List ℕ) (old new : Outside) (before now : ℕ) (told told_new : Option (List ℕ)) (line : ℕ) (why : ScriptWhy) (outcome : Result (List ℕ) Fault) (status : Status) → IsPlayOutcome workers name log old new outcome → IsPlayReported outcome told told_new before now status → IsFaultless old new before now → IsUnread name log old line why → IsOrMemory status (Statuses.Fault (Faults.Script line why))
unread once name log old new before now told told_new line why (Ok printed) status is told_is none has =
    let P = is.played in
    let W = P.read in
    absurd (none-read once name log W.text old line why P.script has.tells W.held W.is has)
unread once name log old new before now told told_new line why (Err fault) status is told_is none has =
    elim is.unplayed [
      | inl (same, reason) ↦ fault-status fault (Faults.Script line why) told told_new before now status none.print told_is (unread-last once name log old new line why fault (calm-of old new before now none) has reason)
      | inr (script, mid, W, U) ↦ absurd (none-read once name log W.text old line why script has.tells W.held W.is has)
    ]

-- ---- a script without a plan

shape-same : FaultsOnce → (script : Script) (a b : PlanFault) → IsFaultOfScript script a → IsFaultOfScript script b → IsSameFault a b
shape-same once (Play units parts links) a b x y = once units parts (joints_of parts links) a b x y
shape-same once (Trace units lines) a b x y = absurd x

no-plan : PlansOnce → (script : Script) (plan : PlanValue) (why : PlanFault) → why ≢ Plans.OutOfMemory → IsFaultOfScript script why → IsPlanOfScript script plan → ⊥
no-plan once script plan why n f is = n (shape-last once script plan why is f)

-- want of memory or not
is-memory : (why : PlanFault) → (why ≡ Plans.OutOfMemory) ⊎ (why ≢ Plans.OutOfMemory)
is-memory Plans.OutOfMemory = inl refl
is-memory (Plans.Cycle line) = inr (λ e. cc)
is-memory (Plans.OpenPort line port) = inr (λ e. cc)
is-memory (Plans.PortTwice line) = inr (λ e. cc)
is-memory (Plans.TooMany line) = inr (λ e. cc)
is-memory (Plans.Units have need) = inr (λ e. cc)
is-memory (Plans.Wrong line) = inr (λ e. cc)
is-memory (Plans.Small line) = inr (λ e. cc)
is-memory (Plans.Differ line) = inr (λ e. cc)

module _ (plans_once : PlansOnce) (faults_once : FaultsOnce) (script : Script) (log : List ℕ) (mid new : Outside) (fault : Fault) (why : PlanFault) (n : why ≢ Plans.OutOfMemory) (is : IsFaultOfScript script why) where
  shape-told : {workers : ℕ} → IsUndone workers script log mid new fault → (fault ≡ fault_of_plan why) ⊎ (fault ≡ Faults.OutOfMemory)
  shape-told (inl (inl U)) = elim (is-memory U.why) [
    | inl m ↦ inr (U.told ∙ ap fault_of_plan m)
    | inr other ↦ inl (U.told ∙ ap fault_of_plan (shape-same faults_once script U.why why U.is is other n))
  ]
  shape-told (inl (inr (planned, plan_is, U))) = absurd (no-plan plans_once script planned why n is plan_is)
  shape-told (inr (inl B)) = let O = B.opened in absurd (no-plan plans_once script O.planned why n is O.is_plan)
  shape-told (inr (inr U)) = let O = U.opened in absurd (no-plan plans_once script O.planned why n is O.is_plan)

pub unplanned : {workers : ℕ} → PlayOnce → PlansOnce → FaultsOnce → (name log : List ℕ) (old new : Outside) (before now : ℕ) (told told_new : Option (List ℕ)) (why : PlanFault) (outcome : Result (List ℕ) Fault) (status : Status) → IsPlayOutcome workers name log old new outcome → IsPlayReported outcome told told_new before now status → IsFaultless old new before now → HasNoPlan name log old why → IsOrMemory status (Statuses.Fault (fault_of_plan why))
unplanned once plans_once faults_once name log old new before now told told_new why (Ok printed) status is told_is none has =
    let P = is.played in
    let O = (P.done.1).opened in
    let e = read-same once name log old P.mid P.script has.script P.read has.asked in
    absurd (no-plan plans_once has.script O.planned why has.shape has.is (subst (λ (s : Script). IsPlanOfScript s O.planned) e O.is_plan))
unplanned once plans_once faults_once name log old new before now told told_new why (Err fault) status is told_is none has =
    elim is.unplayed [
      | inl (same, reason) ↦ fault-status fault _ told told_new before now status none.print told_is (inr (script-last once name log old new has.script fault (calm-of old new before now none) has.asked reason))
      | inr (script, mid, W, undone) ↦
          let e = read-same once name log old mid script has.script W has.asked in
          fault-status fault _ told told_new before now status none.print told_is (shape-told plans_once faults_once script log mid new fault why has.shape (subst (λ (s : Script). IsFaultOfScript s why) (sym e) has.is) undone)
    ]

-- ---- a script whose plan doesn't fit its sources

abbrev pub FitsNot : Type 0
FitsNot = (plan : PlanValue) (fault : PlanFault) → IsFit plan → IsFitFault plan fault → ⊥

abbrev pub MisfitsOnce : Type 0
MisfitsOnce = (plan : PlanValue) (fault other : PlanFault) → IsValid plan → IsFitFault plan fault → IsFitFault plan other → fault ≡ other

-- the heads of sources that are told are those of the files
heads-told : (old : Outside) (parts : List PartLine) (files : PlayFiles) (samples : List (List ℕ)) → AreFiles old parts files samples → HaveHeads old parts (length parts) files.heads
heads-told old parts files samples A = λ tells place name b reader. (let R = A.sources place name reader in (R.head, R.head_is, (R.bytes, R.held, R.reads)))

module _ (reads_once : ReadsOnce) (plans_once : PlansOnce) (never : FitsNot) (misfits_once : MisfitsOnce) (script : Script) (log : List ℕ) (mid new : Outside) (fault : Fault) (why : PlanFault) (calm : IsCalm mid new) (tells : IsTrue mid.tells)
    (sources : (place : ℕ) (file : List ℕ) → IsReader (parts_of script) place file → IsSound mid file)
    (one : PlanValue) (fits_to : IsFittedTo script mid one) (misfits : IsFitFault one why) where
  fitted-none : (planned fitted : PlanValue) (files : PlayFiles) (samples : List (List ℕ)) → IsPlanOfScript script planned → IsFitted planned files.heads fitted → IsFit fitted → AreFiles mid fitted.parts files samples → ⊥
  fitted-none planned fitted files samples is F fit A =
      never fitted why fit (misfits_so script mid one tells fits_to planned fitted files.heads is (heads-told mid planned.parts files samples (subst (λ (ps : List PartLine). AreFiles mid ps files samples) F.parts A)) F why misfits)

  opened-none : (fitted : PlanValue) (files : PlayFiles) (samples : List (List ℕ)) → WasOpened script mid fitted files → AreFiles mid fitted.parts files samples → ⊥
  opened-none fitted files samples O A = fitted-none O.planned fitted files samples O.is_plan O.fitted O.fit A

  misfit-told : {workers : ℕ} → IsUndone workers script log mid new fault → (fault ≡ fault_of_plan why) ⊎ (fault ≡ Faults.OutOfMemory)
  misfit-told (inl (inl U)) = inr (unplanned-last plans_once script mid new fault fits_to.planned fits_to.is_plan U)
  misfit-told (inl (inr (planned, is, inl U))) =
      let M = U.met in
      inr (sound-last reads_once (M.part).line M.name mid new fault tells calm (sources U.place M.name (reader-in script planned planned U.place M.name is refl (M.part, M.there, M.reads))) (M.refused).why)
  misfit-told (inl (inr (planned, is, inr (inl U)))) =
      let V = fitted_valid planned U.plan U.heads (valid_of script planned is) U.fitted in
      inl (U.told ∙ ap fault_of_plan (misfits_once U.plan U.why why V U.is (misfits_so script mid one tells fits_to planned U.plan U.heads is U.have U.fitted why misfits)))
  misfit-told (inl (inr (planned, is, inr (inr U)))) = let f = U.files_are tells in absurd (fitted-none planned U.plan U.files f.0 is U.fitted U.fit f.1)
  misfit-told (inr (inl B)) = let left = B.left tells in absurd (opened-none B.plan B.files left.samples B.opened left.files_are)
  misfit-told (inr (inr U)) = let left = U.left tells in absurd (opened-none U.plan U.files left.samples U.opened left.files_are)

pub misfitted : {workers : ℕ} → PlayOnce → ReadsOnce → PlansOnce → FitsNot → MisfitsOnce → (name log : List ℕ) (old new : Outside) (before now : ℕ) (told told_new : Option (List ℕ)) (why : PlanFault) (outcome : Result (List ℕ) Fault) (status : Status) → IsPlayOutcome workers name log old new outcome → IsPlayReported outcome told told_new before now status → IsFaultless old new before now → IsMisfitted name log old why → IsOrMemory status (Statuses.Fault (fault_of_plan why))
misfitted once reads_once plans_once never misfits_once name log old new before now told told_new why (Ok printed) status is told_is none has =
    let P = is.played in
    let W = P.read in
    let D = P.done.1 in
    let O = D.opened in
    let H = D.held ((W.goes_on).tells ∙ (has.asked).tells) in
    let e = read-same once name log old P.mid P.script has.script W has.asked in
    let planned = subst (λ (s : Script). IsPlanOfScript s O.planned) e O.is_plan in
    let A = subst (λ (ps : List PartLine). AreFiles old ps (D.files) H.samples) (O.fitted).parts (files-before old P.mid (D.plan).parts D.files H.samples W.files H.files_are) in
    absurd (never D.plan why O.fit (misfits_so has.script old has.fitted (has.asked).tells has.fits_to O.planned D.plan (D.files).heads planned (heads-told old (O.planned).parts D.files H.samples A) O.fitted why has.misfits))
misfitted once reads_once plans_once never misfits_once name log old new before now told told_new why (Err fault) status is told_is none has =
    elim is.unplayed [
      | inl (same, reason) ↦ fault-status fault _ told told_new before now status none.print told_is (inr (script-last once name log old new has.script fault (calm-of old new before now none) has.asked reason))
      | inr (script, mid, W, undone) ↦
          let e = read-same once name log old mid script has.script W has.asked in
          let asked = has.asked in
          fault-status fault _ told told_new before now status none.print told_is
          (misfit-told reads_once plans_once never misfits_once script log mid new fault why (calm-later name log old mid new script W before now none) ((W.goes_on).tells ∙ asked.tells)
          (λ place file r. sound-later name log old mid new script W file (has.sources place file (subst (λ (s : Script). IsReader (parts_of s) place file) e r)))
          has.fitted (fitted-in name log old mid new script W has.script has.fitted e has.fits_to) has.misfits undone)
    ]

-- ---- a script with a faulty source

same-part : (a b : PartLine) (found : Option PartLine) → found ≡ Some a → found ≡ Some b → a ≡ b
same-part a b found p q = let e : Some a ≡ Some b = sym p ∙ q in cc

module _ (reads_once : ReadsOnce) (plans_once : PlansOnce) (script : Script) (log : List ℕ) (mid new : Outside) (fault : Fault) (calm : IsCalm mid new) (tells : IsTrue mid.tells)
    (plan : PlanValue) (is_plan : IsPlanOfScript script plan) (place : ℕ) (part : PartLine) (file bytes : List ℕ) (bad : WavFault)
    (there : slice_get (parts_of script) place ≡ Some part) (reads_file : read_by part.form ≡ Some file) (given : IsGiven mid file bytes) (reads : Reads bytes (Err bad))
    (before : (other : ℕ) (name : List ℕ) → other < place → IsReader (parts_of script) other name → IsSound mid name) where
  heads-none : (parts : List PartLine) (count : ℕ) (heads : List WavHead) → parts ≡ parts_of script → place < count → HaveHeads mid parts count heads → ⊥
  heads-none parts count heads e b H =
      let h = H tells place file b (subst (λ (ps : List PartLine). IsReader ps place file) (sym e) (part, there, reads_file)) in
      sound-head mid file bytes bad reads_once given reads h.2.0 h.0 h.2.1 h.2.2

  files-none : (parts : List PartLine) (files : PlayFiles) (samples : List (List ℕ)) → parts ≡ parts_of script → AreFiles mid parts files samples → ⊥
  files-none parts files samples e A =
      let R = A.sources place file (subst (λ (ps : List PartLine). IsReader ps place file) (sym e) (part, there, reads_file)) in
      sound-head mid file bytes bad reads_once given reads R.bytes R.head R.held R.reads

  source-told : (planned : PlanValue) → IsPlanOfScript script planned → IsUnopenedSource planned mid new fault → (fault ≡ Faults.BadMedia (Files.Line part.line) bad) ⊎ (fault ≡ Faults.OutOfMemory)
  source-told planned is U =
      let M = U.met in
      let e = planned-parts script planned is in
      elim (cases_lt U.place place) [
        | inl lt ↦ inr (sound-last reads_once (M.part).line M.name mid new fault tells calm (before U.place M.name lt (subst (λ (ps : List PartLine). IsReader ps U.place M.name) e (M.part, M.there, M.reads))) (M.refused).why)
        | inr le ↦ elim (cases_lt place U.place) [
          | inl lt ↦ absurd (heads-none planned.parts U.place U.heads e lt U.before)
          | inr ge ↦
              let at : U.place ≡ place = omega arith in
              let same : M.part ≡ part = same-part M.part part (slice_get (parts_of script) place) (subst (λ (k : ℕ). slice_get (parts_of script) k ≡ Some M.part) at (subst (λ (ps : List PartLine). slice_get ps U.place ≡ Some M.part) e M.there)) there in
              let named : M.name ≡ file = same-text M.name file (read_by part.form) (subst (λ (p : PartLine). read_by p.form ≡ Some M.name) same M.reads) reads_file in
              elim (faulty-last reads_once (M.part).line file bytes bad mid new fault tells calm given reads (subst (λ (f : List ℕ). IsSourceFault (M.part).line f mid new fault) named (M.refused).why)) [
                | inl is_bad ↦ inl (is_bad ∙ ap (λ (p : PartLine). Faults.BadMedia (Files.Line p.line) bad) same)
                | inr memory ↦ inr memory
              ]
        ]
      ]

  bad-told : {workers : ℕ} → IsUndone workers script log mid new fault → (fault ≡ Faults.BadMedia (Files.Line part.line) bad) ⊎ (fault ≡ Faults.OutOfMemory)
  bad-told (inl (inl U)) = inr (unplanned-last plans_once script mid new fault plan is_plan U)
  bad-told (inl (inr (planned, is, inl U))) = source-told planned is U
  bad-told (inl (inr (planned, is, inr (inl U)))) =
      let e = planned-parts script planned is in
      absurd (heads-none planned.parts (length planned.parts) U.heads e (slice_get_within planned.parts place part (subst (λ (ps : List PartLine). slice_get ps place ≡ Some part) (sym e) there)) U.have)
  bad-told (inl (inr (planned, is, inr (inr U)))) = let f = U.files_are tells in absurd (files-none (U.plan).parts U.files f.0 ((U.fitted).parts ∙ planned-parts script planned is) f.1)
  bad-told (inr (inl B)) = let O = B.opened in let left = B.left tells in absurd (files-none (B.plan).parts B.files left.samples ((O.fitted).parts ∙ planned-parts script O.planned O.is_plan) left.files_are)
  bad-told (inr (inr U)) = let O = U.opened in let left = U.left tells in absurd (files-none (U.plan).parts U.files left.samples ((O.fitted).parts ∙ planned-parts script O.planned O.is_plan) left.files_are)

pub faulty : {workers : ℕ} → PlayOnce → ReadsOnce → PlansOnce → (name log : List ℕ) (old new : Outside) (before now : ℕ) (told told_new : Option (List ℕ)) (line : ℕ) (bad : WavFault) (outcome : Result (List ℕ) Fault) (status : Status) → IsPlayOutcome workers name log old new outcome → IsPlayReported outcome told told_new before now status → IsFaultless old new before now → IsFaulty name log old line bad → IsOrMemory status (Statuses.Fault (Faults.BadMedia (Files.Line line) bad))
faulty {workers} once reads_once plans_once name log old new before now told told_new line bad (Ok printed) status is told_is none has =
    let P = is.played in
    let W = P.read in
    let D = P.done.1 in
    let O = D.opened in
    let H = D.held ((W.goes_on).tells ∙ (has.asked).tells) in
    let e = read-same once name log old P.mid P.script has.script W has.asked in
    let parts = (O.fitted).parts ∙ (planned-parts P.script O.planned O.is_plan ∙ ap parts_of e) in
    let R = (files-before old P.mid (D.plan).parts D.files H.samples W.files H.files_are).sources has.place has.file (subst (λ (ps : List PartLine). IsReader ps has.place has.file) (sym parts) (has.part, has.there, has.reads_file)) in
    absurd (sound-head old has.file has.bytes bad reads_once has.given has.reads R.bytes R.head R.held R.reads)
faulty {workers} once reads_once plans_once name log old new before now told told_new line bad (Err fault) status is told_is none has =
    elim is.unplayed [
      | inl (same, reason) ↦ fault-status fault _ told told_new before now status none.print told_is (inr (script-last once name log old new has.script fault (calm-of old new before now none) has.asked reason))
      | inr (script, mid, W, undone) ↦
          let e = read-same once name log old mid script has.script W has.asked in
          let asked = has.asked in
          fault-status fault _ told told_new before now status none.print told_is (subst (λ (n : ℕ). (fault ≡ Faults.BadMedia (Files.Line n) bad) ⊎ (fault ≡ Faults.OutOfMemory)) (sym has.line_is)
          (bad-told reads_once plans_once has.script log mid new fault (calm-later name log old mid new script W before now none) ((W.goes_on).tells ∙ asked.tells) has.plan has.is_plan has.place has.part has.file has.bytes bad
          has.there has.reads_file (given-later name log old mid new script W has.file has.bytes has.given) has.reads
          (λ other file b r. sound-later name log old mid new script W file (has.before other file b r))
          (subst (λ (s : Script). IsUndone workers s log mid new fault) e undone)))
    ]
