-- A script that is read has its numbers in their limits, and so has its plan.
use Rattle.std.proofs.Common.{◌≡◌, inl, inr, ℕ, ◌+◌, List, [], ◌∷◌, codes, slice_get, Some, Ok, Err, sym, ◌∙◌, ap, subst, arith}
use Rattle.std.proofs.lemmas.List.{length-map}
use Rattle.std.proofs.lemmas.Option.{slice_get_within}
use Rattle.omx_types.specs.declared.fault.ScriptWhy.TheVariants as whys
use Rattle.line_text.specs.Lines.{lines_of}
use Rattle.script_lang.specs.LineByLine.{Begin, ComeTo, fault_at}
use Rattle.script_lang.specs.PlayForms.{IsPartForm, IsPlayForm}
use Rattle.script_lang.specs.PlayScripts.{IsPlayScript, PlayBefore, PlayComes, PlayReadsAs, PlaySays, no_play, play_after, with_form}
use Rattle.script_lang.specs.declared.play_form.PlayForm.{PlayForm}
use Rattle.script_lang.specs.declared.play_form.PlayForm.TheVariants.{Part, Link}
use Rattle.script_lang.specs.declared.play_line.LinkLine.{LinkLine}
use Rattle.script_lang.specs.declared.play_line.PartLine.{PartLine}
use Rattle.script_lang.specs.declared.play_saying.PlaySaid.{PlaySaid}
use Rattle.script_lang.specs.declared.play_saying.PlaySaid.TheVariants.{Nothing, Units, Form, Fault}
use Rattle.script_lang.specs.declared.script.Script.{Script}
use Rattle.wav_form.specs.declared.heads.WavHead.{WavHead}
use Rattle.machine_laws.proofs.Every.{at_push}
use Rattle.play_forms.specs.declared.joint.Joint.{Joint}
use Rattle.play_forms.specs.Joints.{joint_of, joints_of}
use Rattle.play_forms.specs.Plans.{IsFitted, IsPlanOf, IsPlanOfScript, PlanValue}
use Rattle.stream_plan.proofs.Lists.{slice_get_mapped}
use Rattle.play_world_laws.proofs.Lists.{get_there}
use Rattle.play_plan_laws.specs.Limits.{IsScripted, IsWide}

-- ---- what was read so far

record AreLimited (parts : List PartLine) (links : List LinkLine) : Type 0 where
  parts_are : (k : ℕ) (part : PartLine) → slice_get parts k ≡ Some part → IsPartForm part.form
  links_are : (k : ℕ) (link : LinkLine) → slice_get links k ≡ Some link → IsWide link.count link.size

form_limited : (before : PlayBefore) (number : ℕ) (form : PlayForm) → IsPlayForm form → AreLimited before.parts before.links → AreLimited (with_form before number form).parts (with_form before number form).links
form_limited before number (Part name form) F L = record {
  parts_are = λ k part e. elim (at_push before.parts k _ part e) [ inl h ↦ L.parts_are k part h | inr h ↦ subst (λ (y : PartLine). IsPartForm y.form) (sym h) F.1 ];
  links_are = L.links_are;
}
form_limited before number (Link output input count size) F L = record {
  parts_are = L.parts_are;
  links_are = λ k link e. elim (at_push before.links k _ link e) [
    | inl h ↦ L.links_are k link h
    | inr h ↦ subst (λ (y : LinkLine). IsWide y.count y.size) (sym h) (record { some = F.2.0; few = F.2.1; one_byte = F.3.0; short = F.3.1 })
  ];
}

said_form : (script log : List ℕ) (before : PlayBefore) (line : List ℕ) (form : PlayForm) → PlaySays script log before line (Form form) → IsPlayForm form
said_form script log before line form (inl h) = h.1.1.is
said_form script log before line form (inr h) = let e : Form form ≡ Fault whys.NotText = h.1 in absurd cc

line_limited : (script log : List ℕ) (before next : PlayBefore) (number : ℕ) (line : List ℕ) (said : PlaySaid) → PlaySays script log before line said → Ok next ≡ play_after before number said
    → AreLimited before.parts before.links → AreLimited next.parts next.links
line_limited script log before next number line Nothing S e L = let s : next ≡ before = cc in subst (λ (y : PlayBefore). AreLimited y.parts y.links) (sym s) L
line_limited script log before next number line (Units n) S e L =
    let s : next ≡ record { units = Some n; parts = before.parts; links = before.links } = cc in
    subst (λ (y : PlayBefore). AreLimited y.parts y.links) (sym s) L
line_limited script log before next number line (Form form) S e L =
    let s : next ≡ with_form before number form = cc in
    subst (λ (y : PlayBefore). AreLimited y.parts y.links) (sym s) (form_limited before number form (said_form script log before line form S) L)
line_limited script log before next number line (Fault why) S e L = absurd cc

lines_limited : (script log : List ℕ) (lines : List (List ℕ)) (before last : PlayBefore) (number : ℕ) → AreLimited before.parts before.links → ComeTo (PlayComes script log) before number lines (Ok last) → AreLimited last.parts last.links
lines_limited script log [] before last number L h = let s : last ≡ before = cc in subst (λ (y : PlayBefore). AreLimited y.parts y.links) (sym s) L
lines_limited script log (line ∷ lines) before last number L (Ok next, comes, rest) = lines_limited script log lines next last (number + 1) (line_limited script log before next number line comes.0 comes.1 comes.2 L) rest
lines_limited script log (line ∷ lines) before last number L (Err fault, comes, rest) = absurd cc

none_limited : AreLimited [] []
none_limited = record { parts_are = λ k part e. absurd cc; links_are = λ k link e. absurd cc }

begun_limited : (script log : List ℕ) (lines : List (List ℕ)) (last : PlayBefore) → Begin (PlayComes script log) no_play (codes "play") lines (Ok last) → AreLimited last.parts last.links
begun_limited script log [] last h = absurd cc
begun_limited script log (line ∷ lines) last (inl h) = let e : Ok last ≡ Err (fault_at 1 whys.NotText) = h.1 in absurd cc
begun_limited script log (line ∷ lines) last (inr (inl h)) = let e : Ok last ≡ Err (fault_at 1 whys.FirstLine) = h.2 in absurd cc
begun_limited script log (line ∷ lines) last (inr (inr h)) = lines_limited script log lines no_play last 2 none_limited h.2

read_limited : (script log text : List ℕ) (last : PlayBefore) → PlayReadsAs script log text (Ok last) → AreLimited last.parts last.links
read_limited script log text last (inl h) = let e : Ok last ≡ Err (fault_at 0 whys.TooLong) = h.1 in absurd cc
read_limited script log text last (inr h) = begun_limited script log (lines_of text) last h.1

-- ---- its plan

plan_scripted : (units : ℕ) (parts : List PartLine) (links : List LinkLine) (plan : PlanValue) → AreLimited parts links → IsPlanOf units parts links plan → IsScripted plan
plan_scripted units parts links plan L P = record {
  parts = λ place part e. L.parts_are place part (ap (λ (ps : List PartLine). slice_get ps place) (sym P.parts_of) ∙ e);
  joints = λ l joint e.
      let f : slice_get (joints_of parts links) l ≡ Some joint = ap (λ (js : List Joint). slice_get js l) (sym P.joints_of) ∙ e in
      let b = slice_get_within (joints_of parts links) l joint f in
      let n = length-map links (joint_of parts) in
      let k = get_there links l (omega arith) in
      let g : Some (joint_of parts k.0) ≡ Some joint = sym (slice_get_mapped (joint_of parts) links l k.0 k.1) ∙ f in
      let is : joint_of parts k.0 ≡ joint = cc in
      subst (λ (y : Joint). IsWide y.count y.size) is (L.links_are l k.0 k.1);
}

pub scripted : (script log text : List ℕ) (read : Script) (plan : PlanValue) → IsPlayScript script log text read → IsPlanOfScript read plan → IsScripted plan
scripted script log text read plan (last, reads, is) P = plan_scripted _ last.parts last.links plan (read_limited script log text last reads) (subst (λ (y : Script). IsPlanOfScript y plan) is P)

pub fitted_scripted : (plan fitted : PlanValue) (heads : List WavHead) → IsScripted plan → IsFitted plan heads fitted → IsScripted fitted
fitted_scripted plan fitted heads S F = record {
  parts = λ place part e. S.parts place part (ap (λ (ps : List PartLine). slice_get ps place) (sym F.parts) ∙ e);
  joints = λ l joint e. S.joints l joint (ap (λ (js : List Joint). slice_get js l) (sym F.joints) ∙ e);
}
