-- The plan of a script, fitted to the heads of its told files, is one.
use Rattle.std.proofs.Common.{◌≡◌, ℕ, List, length, slice_get, Option, Some, None, Result, Ok, IsTrue, refl, sym, ◌∙◌, ap, subst}
use Rattle.std.proofs.lemmas.Option.{slice_get_within}
use Rattle.omx_types.specs.declared.fault.WavFault.{WavFault}
use Rattle.outside_io.specs.Files.{Outside}
use Rattle.script_lang.specs.declared.play_line.PartForm.{PartForm}
use Rattle.script_lang.specs.declared.play_line.PartForm.TheVariants as forms
use Rattle.script_lang.specs.declared.play_line.PartLine.{PartLine}
use Rattle.script_lang.specs.declared.script.Script.{Script}
use Rattle.script_lang.specs.declared.script.Script.TheVariants.{Play, Trace}
use Rattle.wav_form.specs.Reading.{Reads}
use Rattle.wav_form.specs.declared.heads.WavHead.{WavHead}
use Rattle.wav_form.proofs.Read.{same_answer}
use Rattle.play_forms.specs.declared.flow.Flow.{Flow}
use Rattle.play_forms.specs.declared.joint.Joint.{Joint}
use Rattle.play_forms.specs.declared.plan_fault.PlanFault.{PlanFault}
use Rattle.play_forms.specs.Flows.{AreFlows, AreFrames, flow_at, flow_by, flow_of_head, no_flow}
use Rattle.play_forms.specs.Parts.{kind_of, source_number}
use Rattle.play_forms.specs.Plans.{IsFit, IsFitFault, IsFitted, IsPlanOfScript, IsValid, PlanValue}
use Rattle.play_forms.specs.Settling.{into}
use Rattle.play_forms.proofs.OneFitted.{one_fitted, one_plan}
use Rattle.play_forms.proofs.OneMisfit.{fit_faultless}
use Rattle.play_forms.proofs.Places.{Some_same}
use Rattle.play_result_laws.specs.Files.{IsReader, read_by}
use Rattle.play_files.specs.Left.{HaveHeads, IsFittedTo}
use Rattle.play_files.specs.Opening.{HasHead}

-- ---- of the heads a plan takes only those at the numbers of its sources

abbrev AgreeAtSources : List PartLine → List WavHead → List WavHead → Type 0
AgreeAtSources parts heads others = (place : ℕ) (name : List ℕ) → IsReader parts place name → slice_get heads (source_number parts place) ≡ slice_get others (source_number parts place)

flow_by_same : (form : PartForm) (head other : Option WavHead) (incoming : ℕ → Flow) → ((name : List ℕ) → read_by form ≡ Some name → head ≡ other) → flow_by (kind_of form) head incoming ≡ flow_by (kind_of form) other incoming
flow_by_same (forms.Source file) head other incoming same = ap flow_of_head (same file refl)
flow_by_same (forms.Late file) head other incoming same = ap flow_of_head (same file refl)
flow_by_same forms.Decoder head other incoming same = refl
flow_by_same forms.Alaw head other incoming same = refl
flow_by_same forms.Mulaw head other incoming same = refl
flow_by_same (forms.Gain gain) head other incoming same = refl
flow_by_same (forms.Mixer weights) head other incoming same = refl
flow_by_same (forms.Splitter outputs) head other incoming same = refl
flow_by_same (forms.Sink file) head other incoming same = refl

module _ (parts : List PartLine) (heads others : List WavHead) (agree : AgreeAtSources parts heads others) where
  flow_same : (place : ℕ) (found : Option PartLine) (incoming : ℕ → Flow) → slice_get parts place ≡ found → flow_at parts heads found place incoming ≡ flow_at parts others found place incoming
  flow_same place None incoming there = refl
  flow_same place (Some part) incoming there =
      flow_by_same part.form (slice_get heads (source_number parts place)) (slice_get others (source_number parts place)) incoming (λ name reads. agree place name (part, there, reads))

  flows_same : (joints : List Joint) (flows : List Flow) → AreFlows parts joints heads flows → AreFlows parts joints others flows
  flows_same joints flows F = record {
    many = F.many;
    each = λ k joint e. F.each k joint e ∙ ap (λ (flow : Flow). Some flow) (flow_same joint.giver (slice_get parts joint.giver) (into no_flow joints flows joint.giver) refl);
  }

  frames_same : (joints : List Joint) (flows : List Flow) (frames : List ℕ) → AreFrames parts joints heads flows frames → AreFrames parts joints others flows frames
  frames_same joints flows frames F = record {
    many = F.many;
    each = λ place part e. F.each place part e ∙ ap (λ (flow : Flow). Some flow.frames) (flow_same place (Some part) (into no_flow joints flows place) e);
  }

fitted_same : (planned fitted : PlanValue) (heads others : List WavHead) → AgreeAtSources planned.parts heads others → IsFitted planned heads fitted → IsFitted planned others fitted
fitted_same planned fitted heads others agree F = record {
  units = F.units;
  parts = F.parts;
  joints = F.joints;
  order = F.order;
  flows = flows_same planned.parts heads others agree planned.joints fitted.flows F.flows;
  frames = frames_same planned.parts heads others agree planned.joints fitted.flows fitted.frames F.frames;
}

-- ---- and those are the heads of the told files

ok_same : (a b : WavHead) → ◌≡◌ {A = Result WavHead WavFault} (Ok a) (Ok b) → a ≡ b
ok_same a b e = cc

one_head : (old : Outside) (name : List ℕ) (a b : WavHead) → HasHead old name a → HasHead old name b → a ≡ b
one_head old name a b (bytes, held, reads) (found, held_too, reads_too) =
    let same : bytes ≡ found = Some_same bytes found (sym held ∙ held_too) in
    ok_same a b (same_answer found (Ok a) (Ok b) (subst (λ (text : List ℕ). Reads text (Ok a)) same reads) reads_too)

heads_agree : (old : Outside) (parts : List PartLine) (heads others : List WavHead) → IsTrue old.tells → HaveHeads old parts (length parts) heads → HaveHeads old parts (length parts) others → AgreeAtSources parts heads others
heads_agree old parts heads others tells H G place name (part, there, reads) =
    let low = slice_get_within parts place part there in
    let (one, at, has) = H tells place name low (part, there, reads) in
    let (other, at_too, has_too) = G tells place name low (part, there, reads) in
    at ∙ (ap (λ (head : WavHead). Some head) (one_head old name one other has has_too) ∙ sym at_too)

-- ---- the plan

pub valid_of : (script : Script) (planned : PlanValue) → IsPlanOfScript script planned → IsValid planned
valid_of (Play units parts links) planned is = is.valid
valid_of (Trace units lines) planned is = absurd is

one_planned : (script : Script) (planned other : PlanValue) → IsPlanOfScript script planned → IsPlanOfScript script other → planned ≡ other
one_planned (Play units parts links) planned other P Q = one_plan units parts links planned other P Q
one_planned (Trace units lines) planned other P Q = absurd P

pub one_fitted_to : (script : Script) (old : Outside) (one other : PlanValue) → IsTrue old.tells → IsFittedTo script old one → IsFittedTo script old other → one ≡ other
one_fitted_to script old one other tells F G =
    let planned : G.planned ≡ F.planned = one_planned script G.planned F.planned G.is_plan F.is_plan in
    let have : HaveHeads old (F.planned).parts (length (F.planned).parts) G.heads = subst (λ (plan : PlanValue). HaveHeads old plan.parts (length plan.parts) G.heads) planned G.have in
    let fitted : IsFitted F.planned G.heads other = subst (λ (plan : PlanValue). IsFitted plan G.heads other) planned G.is_fitted in
    one_fitted F.planned F.heads one other (valid_of script F.planned F.is_plan) F.is_fitted
    (fitted_same F.planned other G.heads F.heads (heads_agree old (F.planned).parts G.heads F.heads tells have F.have) fitted)

-- where the told files are the same ones, so is the plan
pub fitted_later : (script : Script) (old mid : Outside) (fitted : PlanValue) → mid.file ≡ old.file → mid.tells ≡ old.tells → IsFittedTo script old fitted → IsFittedTo script mid fitted
fitted_later script old mid fitted files tells F = record {
  planned = F.planned;
  heads = F.heads;
  is_plan = F.is_plan;
  have = λ told place name low reader.
      (let (head, at, has) = F.have (sym tells ∙ told) place name low reader in
      let (bytes, held, reads) = has in
      (head, at, (bytes, ap (λ (f : List ℕ → Option (List ℕ)). f name) files ∙ held, reads)));
  is_fitted = F.is_fitted;
}

-- whatever is fitted to the told heads is that plan
module _ (script : Script) (old : Outside) (fitted : PlanValue) (tells : IsTrue old.tells) (F : IsFittedTo script old fitted) (planned plan : PlanValue) (heads : List WavHead)
    (is : IsPlanOfScript script planned) (have : HaveHeads old planned.parts (length planned.parts) heads) (G : IsFitted planned heads plan) where
  fitted_so : fitted ≡ plan
  fitted_so = one_fitted_to script old fitted plan tells F (record { planned = planned; heads = heads; is_plan = is; have = have; is_fitted = G })

  -- so it has that one's fault
  pub misfits_so : (why : PlanFault) → IsFitFault fitted why → IsFitFault plan why
  misfits_so why misfits = subst (λ (p : PlanValue). IsFitFault p why) fitted_so misfits

  -- or none
  pub fits_so : IsFit fitted → (why : PlanFault) → IsFitFault plan why → ⊥
  fits_so fits why misfits = fit_faultless plan why (subst IsFit fitted_so fits) misfits
