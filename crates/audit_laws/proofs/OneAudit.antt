-- Of two audits of one told log the scripts' plans, their files and so the verdicts are one.
use Rattle.std.proofs.Common.{◌≡◌, ℕ, zero, suc, ◌+◌, ◌-◌, ◌<◌, Bool, true, false, List, [], ◌∷◌, drop, length, take, slice_get, slice_index_or, Some, Ok, Result, option_map, refl, sym, ◌∙◌, ap, subst, arith}
use Rattle.std.specs.Prelude.{cond, count_by}
use Rattle.std.proofs.lemmas.List.Sums.{sum_by-cons}
use Rattle.std.proofs.lemmas.Option.{slice_get_within}
use Rattle.omx_types.specs.declared.handle.Handle.{Handle}
use Rattle.omx_types.specs.declared.fault.WavFault.{WavFault}
use Rattle.outside_io.specs.Files.{Outside}
use Rattle.part_forms.specs.Kinds.{is_source}
use Rattle.il_machine.specs.Files.{OfferedTo, attached}
use Rattle.il_machine.specs.World.{World}
use Rattle.machine_laws.proofs.Finding.{either}
use Rattle.script_lang.specs.PlayScripts.{IsPlayScript, PlayBefore, play_of}
use Rattle.script_lang.specs.declared.play_line.PartForm.{PartForm}
use Rattle.script_lang.specs.declared.play_line.PartForm.TheVariants as forms
use Rattle.script_lang.specs.declared.play_line.PartLine.{PartLine}
use Rattle.script_lang.specs.declared.script.Script.{Script}
use Rattle.script_lang.specs.declared.script.Script.TheVariants.{Play, Trace}
use Rattle.script_lang.specs.declared.script.ScriptFault.{ScriptFault}
use Rattle.script_lang.proofs.OnePlay.{one-play}
use Rattle.wav_form.specs.declared.heads.WavHead.{WavHead}
use Rattle.wav_form.specs.Reading.{Reads}
use Rattle.wav_form.proofs.Read.{same_answer}
use Rattle.play_build_laws.specs.Stages.{IsStage, Joining, stream_by}
use Rattle.play_forms.specs.Parts.{is_source_part, kind_of, source_number}
use Rattle.play_forms.specs.Plans.{IsFitted, IsPlanOfScript, IsValid, PlanValue}
use Rattle.play_forms.proofs.OneFitted.{one_fitted, one_plan}
use Rattle.play_plan_laws.specs.Assemblies.{IsReady, PlayFiles, assembly_of, file_at, file_of, kind_in, source_file}
use Rattle.play_plan_laws.proofs.Lawful.{plan_lawful}
use Rattle.play_world_laws.proofs.Lists.{get_there}
use Rattle.play_log.specs.Scenes.{HaveOwnNames}
use Rattle.play_log.proofs.Players.{some_same}
use Rattle.play_result_laws.specs.Files.{AreFiles, IsReadAs, read_by, written_by}
use Rattle.play_result_laws.specs.Results.{IsPlanIn}
use Rattle.play_result_laws.proofs.OneLog.{opening_tells}
use Rattle.play_result_laws.proofs.OwnNames.{own_names}
use Rattle.audit_forms.specs.Audited.{Verdict}
use Rattle.audit_forms.specs.Whole.{IsAudited, IsVerdict}
use Rattle.audit_laws.proofs.Opened.{same_lists, two_built}
use Rattle.audit_laws.proofs.Verdicts.{replayed}

-- ---- the plan of a script

ok_same : (a b : PlayBefore) → ◌≡◌ {A = Result PlayBefore ScriptFault} (Ok a) (Ok b) → a ≡ b
ok_same a b e = cc

head_same : (a b : WavHead) → ◌≡◌ {A = Result WavHead WavFault} (Ok a) (Ok b) → a ≡ b
head_same a b e = cc

planned_one : (script log text : List ℕ) (read other : Script) (plan planned : PlanValue) → IsPlayScript script log text read → IsPlayScript script log text other → IsPlanOfScript read plan → IsPlanOfScript other planned → plan ≡ planned
planned_one script log text read other plan planned (a, reads, is) (b, reads_too, is_too) P Q =
    let same : a ≡ b = ok_same a b (one-play script log text (Ok a) (Ok b) reads reads_too) in
    let first : IsPlanOfScript (play_of b) plan = subst (λ (y : PlayBefore). IsPlanOfScript (play_of y) plan) same (subst (λ (y : Script). IsPlanOfScript y plan) is P) in
    let second : IsPlanOfScript (play_of b) planned = subst (λ (y : Script). IsPlanOfScript y planned) is_too Q in
    one_plan _ _ _ plan planned first second

-- ---- the heads of its sources

-- the source with that number among the sources
record IsSource (parts : List PartLine) (number : ℕ) : Type 0 where
  place : ℕ
  part : PartLine
  there : slice_get parts place ≡ Some part
  source : is_source_part part ≡ true
  numbered : source_number parts place ≡ number

source_on : (p : PartLine) (parts : List PartLine) (place n : ℕ) (b : Bool) → is_source_part p ≡ b → source_number parts place ≡ n → source_number (p ∷ parts) (suc place) ≡ cond b 1 0 + n
source_on p parts place n b e f = sum_by-cons (λ (q : PartLine). cond (is_source_part q) 1 0) p (take place parts) ∙ (λ j. cond (e j) 1 0 + f j)

nth_source : (parts : List PartLine) (n : ℕ) → n < count_by is_source_part parts → IsSource parts n
nth_source [] n b = absurd (omega (arith, b))
nth_source (p ∷ parts) n b =
    let all = sum_by-cons (λ (q : PartLine). cond (is_source_part q) 1 0) p parts in
    either (is_source_part p)
    (λ t.
    let one : ◌≡◌ {A = ℕ} (cond (is_source_part p) 1 0) 1 = ap (λ (q : Bool). cond q 1 0) t in
    by_number n t (λ m low. nth_source parts m (omega (arith, low, b, all, one))))
    (λ f.
    let none : ◌≡◌ {A = ℕ} (cond (is_source_part p) 1 0) 0 = ap (λ (q : Bool). cond q 1 0) f in
    let r = nth_source parts n (omega (arith, b, all, none)) in
    record { place = suc r.place; part = r.part; there = r.there; source = r.source; numbered = source_on p parts r.place n false f r.numbered ∙ omega arith })
  where
    by_number : (n : ℕ) → is_source_part p ≡ true → ((m : ℕ) → suc m ≡ n → IsSource parts m) → IsSource (p ∷ parts) n
    by_number zero t more = record { place = 0; part = p; there = refl; source = t; numbered = refl }
    by_number (suc m) t more =
        let r = more m refl in
        record { place = suc r.place; part = r.part; there = r.there; source = r.source; numbered = source_on p parts r.place m true t r.numbered ∙ omega arith }

reads_source : (form : PartForm) → is_source (kind_of form) ≡ true → (name : List ℕ) × (read_by form ≡ Some name)
reads_source (forms.Source file) t = (file, refl)
reads_source (forms.Late file) t = (file, refl)
reads_source forms.Decoder t = absurd cc
reads_source forms.Alaw t = absurd cc
reads_source forms.Mulaw t = absurd cc
reads_source (forms.Gain gain) t = absurd cc
reads_source (forms.Mixer weights) t = absurd cc
reads_source (forms.Splitter outputs) t = absurd cc
reads_source (forms.Sink file) t = absurd cc

module _ (outside : Outside) (parts : List PartLine) (files others : PlayFiles) (samples those : List (List ℕ)) (A : AreFiles outside parts files samples) (B : AreFiles outside parts others those) where
  -- what is read of a source
  record IsOneFile (place number : ℕ) : Type 0 where
    head : slice_get files.heads number ≡ slice_get others.heads number
    there : files.there place ≡ others.there place
    known : files.known place ≡ others.known place

  one_file : (place number : ℕ) (name : List ℕ) → IsReadAs outside place number name files samples → IsReadAs outside place number name others those → IsOneFile place number
  one_file place number name R Q =
      let bytes : R.bytes ≡ Q.bytes = some_same R.bytes Q.bytes (sym R.held ∙ Q.held) in
      let head : R.head ≡ Q.head = head_same R.head Q.head (same_answer Q.bytes (Ok R.head) (Ok Q.head) (subst (λ (y : List ℕ). Reads y (Ok R.head)) bytes R.reads) Q.reads) in
      record {
        head = R.head_is ∙ (ap (λ (h : WavHead). Some h) head ∙ sym Q.head_is);
        there = R.there ∙ ((λ j. length (bytes j) - (head j).start) ∙ sym Q.there);
        known = R.known ∙ ((λ j. Some (drop (head j).start (bytes j))) ∙ sym Q.known);
      }

  pub one_heads : files.heads ≡ others.heads
  one_heads = same_lists files.heads others.heads (A.many ∙ sym B.many) (λ k low.
      let m = A.many in
      let S = nth_source parts k (omega (arith, low, m)) in
      let name = reads_source (S.part).form S.source in
      let number = S.numbered in
      let F = one_file S.place (source_number parts S.place) name.0 (A.sources S.place name.0 (S.part, S.there, name.1)) (B.sources S.place name.0 (S.part, S.there, name.1)) in
      subst (λ (n : ℕ). slice_get files.heads n ≡ slice_get others.heads n) number F.head)

  -- the file of the component at a place
  file_by : (place : ℕ) (part : PartLine) → slice_get parts place ≡ Some part → (form : PartForm) → part.form ≡ form → (frames : ℕ)
      → file_of (kind_of form) (slice_get files.heads (source_number parts place)) frames (files.there place) (files.known place)
      ≡ file_of (kind_of form) (slice_get others.heads (source_number parts place)) frames (others.there place) (others.known place)
  file_by place part e (forms.Source file) f frames =
      let F = one_file place (source_number parts place) file (A.sources place file (part, e, ap read_by f)) (B.sources place file (part, e, ap read_by f)) in
      λ j. source_file (F.head j) (F.there j) (F.known j)
  file_by place part e (forms.Late file) f frames =
      let F = one_file place (source_number parts place) file (A.sources place file (part, e, ap read_by f)) (B.sources place file (part, e, ap read_by f)) in
      λ j. source_file (F.head j) (F.there j) (F.known j)
  file_by place part e (forms.Sink file) f frames =
      let known = A.sinks place file (part, e, ap written_by f) ∙ sym (B.sinks place file (part, e, ap written_by f)) in
      λ j. Some (OfferedTo frames (known j))
  file_by place part e forms.Decoder f frames = refl
  file_by place part e forms.Alaw f frames = refl
  file_by place part e forms.Mulaw f frames = refl
  file_by place part e (forms.Gain gain) f frames = refl
  file_by place part e (forms.Mixer weights) f frames = refl
  file_by place part e (forms.Splitter outputs) f frames = refl

-- ---- the opening

module _ (outside : Outside) (plan : PlanValue) (files others : PlayFiles) (samples those : List (List ℕ)) (A : AreFiles outside plan.parts files samples) (B : AreFiles outside plan.parts others those) where
  same_file : (place : ℕ) → place < length plan.parts → file_at plan files place ≡ file_at plan others place
  same_file place b =
      let part = get_there plan.parts place b in
      let there = part.1 in
      (λ j. file_of (kind_in (there j)) (slice_get files.heads (source_number plan.parts place)) (slice_index_or plan.frames place 0) (files.there place) (files.known place))
      ∙ (file_by outside plan.parts files others samples those A B place part.0 there (part.0).form refl (slice_index_or plan.frames place 0)
      ∙ (λ j. file_of (kind_in (sym there j)) (slice_get others.heads (source_number plan.parts place)) (slice_index_or plan.frames place 0) (others.there place) (others.known place)))

  pub opened_so : (handles : List Handle) (w : World) → IsStage (assembly_of plan others) (Joining (length plan.joints)) handles w → IsStage (assembly_of plan files) (Joining (length plan.joints)) handles w
  opened_so handles w S =
      let V = S.built in
      record {
        sound = S.sound;
        built = record {
          units = V.units;
          handles_are = V.handles_are;
          many = V.many;
          numbered = V.numbered;
          components = record {
            each = λ c a e.
                (let R = (V.components).each c a e in
                let m = V.many in
                let b = slice_get_within w.components c a e in
                let same = same_file c (omega (arith, b, m)) in
                record {
                  number = R.number;
                  fresh_else = R.fresh_else;
                  settings = R.settings;
                  gain = R.gain;
                  factors = R.factors;
                  file = R.file ∙ ap (option_map attached) (sym same);
                  calm = R.calm;
                });
            ends = λ side l a b e. (let E = (V.components).ends side l a b e in record { setting = E.setting; state = E.state });
          };
          streams = λ c b. V.streams c b ∙ (λ j. Some (stream_by (sym (same_file c b) j) c));
          headers = V.headers;
          unmade = V.unmade;
          unwaited = V.unwaited;
          given = V.given;
        };
      }

-- ---- two audits

audited_by : (script log text : List ℕ) (outside : Outside) (plan : PlanValue) (files others : PlayFiles) (samples those : List (List ℕ)) (verdict other : Verdict) → IsPlanIn script log outside plan files samples → IsReady plan files
    → AreFiles outside plan.parts others those → IsVerdict outside plan files text verdict → IsVerdict outside plan others text other → other ≡ verdict
audited_by script log text outside plan files others samples those verdict other P ready B one two =
    let own : HaveOwnNames plan.parts = subst HaveOwnNames (sym (P.fitted).parts) (own_names script log P.text P.read P.planned P.is_script P.is_plan) in
    let S = one.opens in
    let T = two.opens in
    let V = opened_so outside plan files others samples those P.files_are B T.0 two.opening T.1 in
    let e = two_built (assembly_of plan files) (plan_lawful plan files ready) S.0 T.0 one.opening two.opening S.1 V in
    replayed plan files ready own outside S.0 one.opening S.1 T.0 two.opening V e (opening_tells outside plan files samples two.opening P.files_are (T.0, V)) text verdict other one.audits two.audits

pub one_audit : (script log : List ℕ) (outside : Outside) (verdict other : Verdict) → IsAudited script log outside verdict → IsAudited script log outside other → other ≡ verdict
one_audit script log outside verdict other A B =
    let P = A.is in
    let Q = B.is in
    let script_text : Q.text ≡ P.text = some_same Q.text P.text (sym Q.held ∙ P.held) in
    let planned : Q.planned ≡ P.planned = planned_one script log P.text Q.read P.read Q.planned P.planned (subst (λ (y : List ℕ). IsPlayScript script log y Q.read) script_text Q.is_script) P.is_script Q.is_plan P.is_plan in
    let parts : B.plan.parts ≡ A.plan.parts = (Q.fitted).parts ∙ (ap (λ (y : PlanValue). y.parts) planned ∙ sym (P.fitted).parts) in
    let files_are : AreFiles outside A.plan.parts B.files B.samples = subst (λ (ps : List PartLine). AreFiles outside ps B.files B.samples) parts Q.files_are in
    let heads : B.files.heads ≡ A.files.heads = sym (one_heads outside A.plan.parts A.files B.files A.samples B.samples P.files_are files_are) in
    let fitted : IsFitted P.planned A.files.heads B.plan = subst (λ (hs : List WavHead). IsFitted P.planned hs B.plan) heads (subst (λ (y : PlanValue). IsFitted y B.files.heads B.plan) planned Q.fitted) in
    let plan : B.plan ≡ A.plan = one_fitted P.planned A.files.heads B.plan A.plan (valid_of P.read P.planned P.is_plan) fitted P.fitted in
    let text : B.text ≡ A.text = some_same B.text A.text (sym B.held ∙ A.held) in
    let two : IsVerdict outside A.plan B.files A.text other = subst (λ (t : List ℕ). IsVerdict outside A.plan B.files t other) text (subst (λ (y : PlanValue). IsVerdict outside y B.files B.text other) plan B.verdict_is) in
    audited_by script log A.text outside A.plan A.files B.files A.samples B.samples verdict other P A.ready files_are A.verdict_is two
  where
    valid_of : (read : Script) (plan : PlanValue) → IsPlanOfScript read plan → IsValid plan
    valid_of (Play units parts links) plan P = P.valid
    valid_of (Trace units lines) plan P = absurd P
