-- The ports of a plan's components: each has its link, and its format is the link's.
use Rattle.std.proofs.Common.{◌≡◌, ℕ, zero, suc, ◌+◌, ◌<◌, nat_eq, Bool, true, false, List, [], ◌∷◌, ◌++◌, length, slice_get, Some, refl, sym, ◌∙◌, ap, subst, eqb-true, arith}
use Rattle.std.specs.List.{AllByRecursion, position_or_len}
use Rattle.std.proofs.lemmas.List.{length-replicate}
use Rattle.std.proofs.lemmas.Option.{get_or_from_slice_get, slice_get_within}
use Rattle.omx_types.specs.declared.format.Format.{Format}
use Rattle.omx_types.specs.declared.kind.Kind.{Kind}
use Rattle.omx_types.specs.declared.kind.Kind.TheVariants as kinds
use Rattle.omx_types.specs.Formats.{channels_of, rate_of}
use Rattle.part_api.specs.Terms.{Terms}
use Rattle.part_forms.specs.Kinds.{IsSized, inputs_of, outputs_of}
use Rattle.part_forms.specs.Shapes.{shape_of}
use Rattle.audio_parts.specs.Kinds.{MayBe, default_factors}
use Rattle.audio_parts.specs.Ready.{AreFitting, Fit}
use Rattle.audio_parts.specs.Shapes.{HasFramesOf, IsLawful}
use Rattle.audio_parts.proofs.PortFrames.{has_frames}
use Rattle.il_machine.specs.Settings.{is_splitter, same_rate_and_channels}
use Rattle.script_lang.specs.declared.play_line.PartForm.{PartForm}
use Rattle.script_lang.specs.declared.play_line.PartForm.TheVariants as forms
use Rattle.script_lang.specs.declared.play_line.PartLine.{PartLine}
use Rattle.machine_laws.proofs.Accepting.{both_of}
use Rattle.play_forms.specs.declared.joint.Joint.{Joint}
use Rattle.play_forms.specs.Fitting.{format_into}
use Rattle.play_forms.specs.Flows.{no_flow}
use Rattle.play_forms.specs.Parts.{factors_of, kind_of}
use Rattle.play_forms.specs.Plain.{format_out, formats_of}
use Rattle.play_forms.specs.Plans.{PlanValue}
use Rattle.play_plan_laws.specs.Casting.{flow_of, joint_of, no_joint}
use Rattle.play_plan_laws.proofs.Limits.{sized_form}
use Rattle.play_plan_laws.proofs.Links.{input_linked, one_input, one_output, output_linked}
use Rattle.play_plan_laws.specs.Assemblies.{IsReady, PlayFiles, end_of}
use Rattle.play_plan_laws.proofs.Lawful.{alike_flows, known_format, link_is, same_part}
use Rattle.play_result_laws.specs.Contents.{leads_to}
use Rattle.play_result_laws.specs.Terms.{terms_by}
use Rattle.play_result_laws.proofs.Finding.{all_append, all_of, both_equal, both_true, into_found, out_found, position_found}

-- ---- lists of formats

pub formats_many : (n : ℕ) (f : ℕ → Format) → length (formats_of n f) ≡ n
formats_many zero f = refl
formats_many (suc n) f = ap suc (formats_many n (λ i. f (suc i)))

pub formats_each : (P : Format → Type 0) (n : ℕ) (f : ℕ → Format) → ((i : ℕ) → i < n → P (f i)) → AllByRecursion P (formats_of n f)
formats_each P zero f h = tt
formats_each P (suc n) f h = (h 0 (omega arith), formats_each P n (λ i. f (suc i)) (λ i l. h (suc i) (omega arith)))

pub formats_get : (n : ℕ) (f : ℕ → Format) (i : ℕ) → i < n → slice_get (formats_of n f) i ≡ Some (f i)
formats_get zero f i l = absurd (omega arith)
formats_get (suc n) f zero l = refl
formats_get (suc n) f (suc i) l = formats_get n (λ j. f (suc j)) i (omega arith)

-- ---- formats that fit

fit_by : (kind : Kind) (f g : Format) → same_rate_and_channels f g ≡ true → (is_splitter kind ≡ true → f ≡ g) → Fit kind f g
fit_by (kinds.Splitter n) f g h k = k refl
fit_by kinds.Source f g h k = let r = both_of (nat_eq (rate_of f) (rate_of g)) (nat_eq (channels_of f) (channels_of g)) h in (eqb-true _ _ r.0, eqb-true _ _ r.1)
fit_by kinds.Late f g h k = let r = both_of (nat_eq (rate_of f) (rate_of g)) (nat_eq (channels_of f) (channels_of g)) h in (eqb-true _ _ r.0, eqb-true _ _ r.1)
fit_by kinds.Decoder f g h k = let r = both_of (nat_eq (rate_of f) (rate_of g)) (nat_eq (channels_of f) (channels_of g)) h in (eqb-true _ _ r.0, eqb-true _ _ r.1)
fit_by kinds.Alaw f g h k = let r = both_of (nat_eq (rate_of f) (rate_of g)) (nat_eq (channels_of f) (channels_of g)) h in (eqb-true _ _ r.0, eqb-true _ _ r.1)
fit_by kinds.Mulaw f g h k = let r = both_of (nat_eq (rate_of f) (rate_of g)) (nat_eq (channels_of f) (channels_of g)) h in (eqb-true _ _ r.0, eqb-true _ _ r.1)
fit_by kinds.Gain f g h k = let r = both_of (nat_eq (rate_of f) (rate_of g)) (nat_eq (channels_of f) (channels_of g)) h in (eqb-true _ _ r.0, eqb-true _ _ r.1)
fit_by (kinds.Mixer n) f g h k = let r = both_of (nat_eq (rate_of f) (rate_of g)) (nat_eq (channels_of f) (channels_of g)) h in (eqb-true _ _ r.0, eqb-true _ _ r.1)
fit_by kinds.Sink f g h k = let r = both_of (nat_eq (rate_of f) (rate_of g)) (nat_eq (channels_of f) (channels_of g)) h in (eqb-true _ _ r.0, eqb-true _ _ r.1)

fit_all : (kind : Kind) (P : Format → Type 0) (fs : List Format) → ((f g : Format) → P f → P g → Fit kind f g) → AllByRecursion P fs → AreFitting kind fs
fit_all kind P [] h A = tt
fit_all kind P (first ∷ rest) h A = all_of P (λ port. Fit kind port first) rest (λ f p. h f first p A.0) A.1

pub factors_many : (form : PartForm) → length (factors_of form) ≡ length (default_factors (kind_of form))
factors_many (forms.Source file) = refl
factors_many (forms.Late file) = refl
factors_many forms.Decoder = refl
factors_many forms.Alaw = refl
factors_many forms.Mulaw = refl
factors_many (forms.Gain gain) = refl
factors_many (forms.Mixer weights) = sym (length-replicate (length weights) 4096)
factors_many (forms.Splitter outputs) = refl
factors_many (forms.Sink file) = refl

-- ---- the links at a component's ports

pub record IsAtInput (plan : PlanValue) (place input : ℕ) : Type 0 where
  pub link : ℕ
  pub below : link < length plan.joints
  pub taker : (joint_of plan link).taker ≡ place
  pub port : (joint_of plan link).input ≡ input
  pub format : format_into plan.joints plan.flows place input ≡ (flow_of plan link).format
  pub position : position_or_len (leads_to place input) plan.joints ≡ link
  -- and so of any list of values of the links
  pub only : (k : ℕ) (other : Joint) → slice_get plan.joints k ≡ Some other → leads_to place input other ≡ true → k ≡ link

pub record IsAtOutput (plan : PlanValue) (place : ℕ) (kind : Kind) (number : ℕ) : Type 0 where
  pub link : ℕ
  pub below : link < length plan.joints
  pub giver : (joint_of plan link).giver ≡ place
  pub port : (joint_of plan link).output ≡ inputs_of kind + number
  pub format : format_out plan place kind number ≡ (flow_of plan link).format

-- a link at the component has this format
pub record IsPortFormat (plan : PlanValue) (place : ℕ) (f : Format) : Type 0 where
  pub side : Bool
  pub link : ℕ
  pub below : link < length plan.joints
  pub at : (end_of side (joint_of plan link)).component ≡ place
  pub is : f ≡ (flow_of plan link).format

module _ (plan : PlanValue) (files : PlayFiles) (R : IsReady plan files) (place : ℕ) (part : PartLine) (e : slice_get plan.parts place ≡ Some part) where
  abbrev kind : Kind
  kind = kind_of part.form

  pub sized : IsSized kind
  sized = sized_form part.form ((R.scripted).parts place part e)

  pub at_input : (input : ℕ) → input < inputs_of kind → IsAtInput plan place input
  at_input input l =
      let r = input_linked plan R.valid place part input e l in
      let b = slice_get_within plan.joints r.0 r.1 r.2 in
      let K = link_is plan files R r.0 b in
      let is : joint_of plan r.0 ≡ r.1 = get_or_from_slice_get plan.joints r.0 r.1 no_joint r.2 in
      let test : leads_to place input r.1 ≡ true = both_true (r.1).taker place (r.1).input input r.3 r.4 in
      let only : (k : ℕ) (other : Joint) → slice_get plan.joints k ≡ Some other → leads_to place input other ≡ true → k ≡ r.0 = λ k other f t.
      let s = both_equal other.taker place other.input input t in
      one_input plan R.valid k r.0 r.1 other f r.2 (s.0 ∙ sym r.3) (s.1 ∙ sym r.4)
      in
      record {
        link = r.0;
        below = b;
        taker = ap (λ (y : Joint). y.taker) is ∙ r.3;
        port = ap (λ (y : Joint). y.input) is ∙ r.4;
        format = ap (λ y. y.format) (into_found no_flow plan.joints plan.flows place input r.0 r.1 (flow_of plan r.0) r.2 K.there_flow test only);
        position = position_found (leads_to place input) plan.joints r.0 r.1 r.2 test only;
        only = only;
      }

  pub at_output : (number : ℕ) → number < outputs_of kind → IsAtOutput plan place kind number
  at_output number l =
      let port : ℕ = inputs_of kind + number in
      let r = output_linked plan R.valid place part port e (omega arith) (omega arith) in
      let b = slice_get_within plan.joints r.0 r.1 r.2 in
      let K = link_is plan files R r.0 b in
      let is : joint_of plan r.0 ≡ r.1 = get_or_from_slice_get plan.joints r.0 r.1 no_joint r.2 in
      record {
        link = r.0;
        below = b;
        giver = ap (λ (y : Joint). y.giver) is ∙ r.3;
        port = ap (λ (y : Joint). y.output) is ∙ r.4;
        format = ap (λ y. y.format) (out_found no_flow plan.joints plan.flows place port r.0 r.1 (flow_of plan r.0) r.2 K.there_flow (both_true (r.1).giver place (r.1).output port r.3 r.4)
            (λ k other f t.
            let s = both_equal other.giver place other.output port t in
            one_output plan R.valid k r.0 r.1 other f r.2 (s.0 ∙ sym r.3) (s.1 ∙ sym r.4)));
      }

  -- ---- what it is set to is lawful

  terms : Terms
  terms = terms_by plan files place part

  may_be : (side : Bool) (l : ℕ) (b : l < length plan.joints) → (end_of side (joint_of plan l)).component ≡ place → MayBe kind side (flow_of plan l).format
  may_be side l b at =
      let K = link_is plan files R l b in
      let same = same_part plan.parts _ _ (K.part side) part (K.part_there side) e at in
      subst (λ (p : PartLine). MayBe (kind_of p.form) side (flow_of plan l).format) same (record { allowed = known_format plan files R l K side; limits = (K.lawful).format })

  pub terms_lawful : IsLawful (terms_by plan files place part)
  terms_lawful = record {
    inputs = formats_each (MayBe kind true) (inputs_of kind) (format_into plan.joints plan.flows place) (λ i l.
        let Z = at_input i l in
        subst (MayBe kind true) (sym Z.format) (may_be true Z.link Z.below Z.taker));
    outputs = formats_each (MayBe kind false) (outputs_of kind) (format_out plan place kind) (λ i l.
        let Z = at_output i l in
        subst (MayBe kind false) (sym Z.format) (may_be false Z.link Z.below Z.giver));
    input_count = formats_many (inputs_of kind) (format_into plan.joints plan.flows place);
    output_count = formats_many (outputs_of kind) (format_out plan place kind);
    factor_count = factors_many part.form;
  }

  port_formats : AllByRecursion (IsPortFormat plan place) ((terms_by plan files place part).inputs ++ (terms_by plan files place part).outputs)
  port_formats = all_append (IsPortFormat plan place) _ _
      (formats_each (IsPortFormat plan place) (inputs_of kind) (format_into plan.joints plan.flows place) (λ i l. let Z = at_input i l in record { side = true; link = Z.link; below = Z.below; at = Z.taker; is = Z.format }))
      (formats_each (IsPortFormat plan place) (outputs_of kind) (format_out plan place kind) (λ i l. let Z = at_output i l in record { side = false; link = Z.link; below = Z.below; at = Z.giver; is = Z.format }))

  fit_two : (f g : Format) → IsPortFormat plan place f → IsPortFormat plan place g → Fit kind f g
  fit_two f g X Y =
      let K = link_is plan files R X.link X.below in
      let L = link_is plan files R Y.link Y.below in
      let A = alike_flows plan files R X.side Y.side X.link Y.link K L (X.at ∙ sym Y.at) in
      let same = same_part plan.parts _ _ (K.part X.side) part (K.part_there X.side) e X.at in
      let r : same_rate_and_channels f g ≡ true = (λ i. same_rate_and_channels (X.is i) (Y.is i)) ∙ A.0 in
      fit_by kind f g r (λ h. X.is ∙ (A.1 (ap (λ (p : PartLine). is_splitter (kind_of p.form)) same ∙ h) ∙ sym Y.is))

  pub terms_frames : HasFramesOf (terms_by plan files place part).inputs (terms_by plan files place part).outputs (shape_of (terms_by plan files place part))
  terms_frames = has_frames (terms_by plan files place part) terms_lawful (fit_all kind (IsPortFormat plan place) _ fit_two port_formats)
