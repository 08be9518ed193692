-- The assembly of a plan that is ready is lawful.
use Rattle.std.proofs.Common.{◌≡◌, ◌≢◌, ℕ, zero, suc, ◌*◌, ◌<◌, ◌≤◌, Bool, true, false, not, ◌&&◌, ◌||◌, nat_eq, nat_lt, nat_le, max, List, [], ◌∷◌, length, slice_get, slice_index_or, Option, Some, refl, sym, ◌∙◌, ap, subst, eq-eqb, ltb-true, leb-true, le-leb, arith}
use Rattle.std.proofs.lemmas.Bool.{le-ltb, ltb-false}
use Rattle.std.proofs.lemmas.Option.{get_or_from_slice_get, slice_get-get_or, slice_get_within}
use Rattle.std.specs.List.{AllByRecursion}
use Rattle.omx_types.specs.declared.format.Format.{Format}
use Rattle.omx_types.specs.declared.format.Format.TheVariants.{Pcm, Alaw, Mulaw, Auto}
use Rattle.omx_types.specs.declared.kind.Kind.{Kind}
use Rattle.omx_types.specs.declared.kind.Kind.TheVariants as kinds
use Rattle.omx_types.specs.Formats.{IsWithinLimits, channels_of, frame_bytes_of, rate_of}
use Rattle.part_forms.specs.Kinds.{IsSized, inputs_of, is_format_of, is_input, is_input_format, is_late, is_output_format, is_source, outputs_of, ports_in}
use Rattle.il_machine.specs.Files.{Offered, OfferedFrom, OfferedTo, is_bad_file, is_for_kind}
use Rattle.il_machine.specs.Kinds.{is_auto, is_port_format, is_sink}
use Rattle.il_machine.specs.Parameters.{is_too_large}
use Rattle.il_machine.specs.Settings.{is_definition_of, is_splitter, is_within_limits, same_bool, same_format, same_rate_and_channels}
use Rattle.script_lang.specs.PlayForms.{IsFactor, IsPartForm}
use Rattle.script_lang.specs.declared.play_line.PartForm.{PartForm}
use Rattle.script_lang.specs.declared.play_line.PartForm.TheVariants as forms
use Rattle.script_lang.specs.declared.play_line.PartLine.{PartLine}
use Rattle.wav_form.specs.Reading.{most_bytes}
use Rattle.wav_form.specs.declared.heads.WavHead.{WavHead}
use Rattle.machine_laws.proofs.Accepting.{both_of}
use Rattle.machine_laws.proofs.Finding.{either}
use Rattle.play_forms.specs.declared.flow.Flow.{Flow}
use Rattle.play_forms.specs.Fitting.{format_into}
use Rattle.play_forms.specs.Flows.{flow_by, flow_of_head, given_format, no_flow}
use Rattle.play_forms.specs.Parts.{factors_of, has_input, has_output, kind_of, passes_at, source_number}
use Rattle.play_forms.specs.Plans.{PlanValue}
use Rattle.play_forms.specs.Settling.{into}
use Rattle.stream_plan.proofs.Flows.{flow_of_other, flow_of_source}
use Rattle.play_world_laws.proofs.Lists.{get_there}
use Rattle.play_plan_laws.specs.Casting.{flow_of, joint_of, no_joint}
use Rattle.play_plan_laws.specs.Limits.{IsLawfulFlow, IsLawfulHead, IsWide}
use Rattle.play_plan_laws.proofs.Limits.{flows_lawful, given_flow, head_there, like_first, same_channels, same_rate, sized_form}
use Rattle.play_plan_laws.proofs.Links.{fed_before, fed_kind, fits_at, fits_joint, incoming_is, input_linked, no_both, one_input, one_output, one_turn, output_linked, ports_of_joint, some_input, there, turn_of}
use Rattle.play_build_laws.specs.Assembly.{AreAlike, IsEndOf, IsLawful, IsLawfulEnd, IsLawfulFile, definition_of, factors_in as factor_count}
use Rattle.machine_laws.proofs.Fitting.{format_itself}
use Rattle.play_plan_laws.specs.Assemblies.{IsReady, PlayFiles, assembly_of, end_of, factors_in, file_at, file_of, is_late_link, kind_in, opening_format, source_file}

-- ---- formats

pub known_within : (f : Format) → IsWithinLimits f → is_auto f ≡ false
known_within (Pcm rate channels) W = refl
known_within (Alaw rate channels) W = refl
known_within (Mulaw rate channels) W = refl
known_within Auto W = let a = W.some_rate in absurd (omega arith)

within_so : (f : Format) → IsWithinLimits f → is_within_limits f ≡ true
within_so f W =
    let a : nat_le 1 (rate_of f) ≡ true = le-leb 1 (rate_of f) W.some_rate in
    let b : nat_le (rate_of f) 768000 ≡ true = le-leb (rate_of f) 768000 W.rate in
    let c : nat_le 1 (channels_of f) ≡ true = le-leb 1 (channels_of f) W.some_channel in
    let d : nat_le (channels_of f) 8 ≡ true = le-leb (channels_of f) 8 W.channels in
    rw (known_within f W, a, b, c, d) refl

few_bytes : (f : Format) → IsWithinLimits f → frame_bytes_of f ≤ 2 * channels_of f
few_bytes (Pcm rate channels) W = omega arith
few_bytes (Alaw rate channels) W = omega arith
few_bytes (Mulaw rate channels) W = omega arith
few_bytes Auto W = let a = W.some_rate in absurd (omega arith)

-- what a component gives is a format of its output
given_output : (kind : Kind) (f : Format) → is_source kind ≡ false → is_sink kind ≡ false → is_input_format kind f ≡ true → is_output_format kind (given_format kind f) ≡ true
given_output kinds.Source f s k h = absurd cc
given_output kinds.Late f s k h = absurd cc
given_output kinds.Decoder f s k h = refl
given_output kinds.Alaw f s k h = refl
given_output kinds.Mulaw f s k h = refl
given_output kinds.Gain f s k h = h
given_output (kinds.Mixer n) f s k h = h
given_output (kinds.Splitter n) f s k h = h
given_output kinds.Sink f s k h = absurd cc

source_output : (kind : Kind) (f : Format) → is_source kind ≡ true → is_auto f ≡ false → is_output_format kind f ≡ true
source_output kinds.Source f s a = ap not a
source_output kinds.Late f s a = refl
source_output kinds.Decoder f s a = absurd cc
source_output kinds.Alaw f s a = absurd cc
source_output kinds.Mulaw f s a = absurd cc
source_output kinds.Gain f s a = absurd cc
source_output (kinds.Mixer n) f s a = absurd cc
source_output (kinds.Splitter n) f s a = absurd cc
source_output kinds.Sink f s a = absurd cc

no_output : (kind : Kind) → is_sink kind ≡ true → outputs_of kind ≡ 0
no_output kinds.Sink s = refl
no_output kinds.Source s = absurd cc
no_output kinds.Late s = absurd cc
no_output kinds.Decoder s = absurd cc
no_output kinds.Alaw s = absurd cc
no_output kinds.Mulaw s = absurd cc
no_output kinds.Gain s = absurd cc
no_output (kinds.Mixer n) s = absurd cc
no_output (kinds.Splitter n) s = absurd cc

splitter_gives : (kind : Kind) (f : Format) → is_splitter kind ≡ true → given_format kind f ≡ f
splitter_gives (kinds.Splitter n) f s = refl
splitter_gives kinds.Sink f s = absurd cc
splitter_gives kinds.Source f s = absurd cc
splitter_gives kinds.Late f s = absurd cc
splitter_gives kinds.Decoder f s = absurd cc
splitter_gives kinds.Alaw f s = absurd cc
splitter_gives kinds.Mulaw f s = absurd cc
splitter_gives kinds.Gain f s = absurd cc
splitter_gives (kinds.Mixer n) f s = absurd cc

source_no_splitter : (kind : Kind) → is_source kind ≡ true → is_splitter kind ≡ true → ⊥
source_no_splitter kinds.Source s t = cc
source_no_splitter kinds.Late s t = cc
source_no_splitter kinds.Decoder s t = cc
source_no_splitter kinds.Alaw s t = cc
source_no_splitter kinds.Mulaw s t = cc
source_no_splitter kinds.Gain s t = cc
source_no_splitter (kinds.Mixer n) s t = cc
source_no_splitter (kinds.Splitter n) s t = cc
source_no_splitter kinds.Sink s t = cc

-- ---- factors

factor_many : (form : PartForm) → length (factors_of form) ≡ factor_count (kind_of form)
factor_many (forms.Source file) = refl
factor_many (forms.Late file) = refl
factor_many forms.Decoder = refl
factor_many forms.Alaw = refl
factor_many forms.Mulaw = refl
factor_many (forms.Gain gain) = refl
factor_many (forms.Mixer weights) = refl
factor_many (forms.Splitter outputs) = refl
factor_many (forms.Sink file) = refl

each_factor : (weights : List ℕ) → AllByRecursion IsFactor weights → (i factor : ℕ) → slice_get weights i ≡ Some factor → factor ≤ 65535
each_factor [] A i factor e = absurd cc
each_factor (x ∷ xs) A zero factor e = let s : x ≡ factor = cc in let a = A.0 in omega arith
each_factor (x ∷ xs) A (suc i) factor e = each_factor xs A.1 i factor e

factor_small : (form : PartForm) → IsPartForm form → (i factor : ℕ) → slice_get (factors_of form) i ≡ Some factor → factor ≤ 65535
factor_small (forms.Gain gain) F zero factor e = let s : gain ≡ factor = cc in omega arith
factor_small (forms.Gain gain) F (suc i) factor e = absurd cc
factor_small (forms.Mixer weights) F i factor e = each_factor weights F.1 i factor e
factor_small _ F i factor e = absurd cc

-- ---- a link, with the components at its ends

pub record IsLinkAt (plan : PlanValue) (l : ℕ) : Type 0 where
  pub there_joint : slice_get plan.joints l ≡ Some (joint_of plan l)
  pub there_flow : slice_get plan.flows l ≡ Some (flow_of plan l)
  pub part : Bool → PartLine
  pub part_there : (side : Bool) → slice_get plan.parts (end_of side (joint_of plan l)).component ≡ Some (part side)
  pub has_out : has_output (joint_of plan l).output (kind_of (part false).form) ≡ true
  pub has_in : has_input (joint_of plan l).input (kind_of (part true).form) ≡ true
  pub lawful : IsLawfulFlow (flow_of plan l)

abbrev by_side : PartLine → PartLine → Bool → PartLine
by_side giver taker false = giver
by_side giver taker true = taker

pub same_part : (parts : List PartLine) (place other : ℕ) (p q : PartLine) → slice_get parts place ≡ Some p → slice_get parts other ≡ Some q → place ≡ other → p ≡ q
same_part parts place other p q e f h = let s : Some p ≡ Some q = sym e ∙ (ap (slice_get parts) h ∙ f) in cc

-- the formats fit beside each other
pub record IsLike (kind : Kind) (f g : Format) : Type 0 where
  pub rate : rate_of f ≡ rate_of g
  pub channels : channels_of f ≡ channels_of g
  pub same : is_splitter kind ≡ true → f ≡ g

pub not_late : (late : Bool) (f : Format) → is_auto (opening_format late f) ≡ false → opening_format late f ≡ f
not_late true f h = absurd cc
not_late false f h = refl

definition_good : (side : Bool) (f : Format) (count size : ℕ) → is_within_limits f ≡ true → IsWide count size → frame_bytes_of f ≤ size → is_definition_of side (record { input = side; format = f; count = count; size = size }) ≡ true
definition_good side f count size w W b =
    let a : nat_le 1 count ≡ true = le-leb 1 count W.some in
    let c : nat_le count 32 ≡ true = le-leb count 32 W.few in
    let d : nat_le 1 size ≡ true = le-leb 1 size W.one_byte in
    let e : nat_le size 4096 ≡ true = le-leb size 4096 W.short in
    let g : nat_le (frame_bytes_of f) size ≡ true = le-leb (frame_bytes_of f) size b in
    let s : same_bool side side ≡ true = itself side in
    rw (w, a, c, d, e, g, s) refl
  where
    itself : (b : Bool) → same_bool b b ≡ true
    itself true = refl
    itself false = refl

or_right : (b : Bool) → (b || true) ≡ true
or_right true = refl
or_right false = refl

module _ (plan : PlanValue) (files : PlayFiles) (R : IsReady plan files) where
  pub link_is : (l : ℕ) → l < length plan.joints → IsLinkAt plan l
  link_is l b =
      let V = R.valid in
      let m = V.flows in
      let j : slice_get plan.joints l ≡ Some (joint_of plan l) = slice_get-get_or plan.joints l no_joint b in
      let f : slice_get plan.flows l ≡ Some (flow_of plan l) = slice_get-get_or plan.flows l no_flow (omega arith) in
      let P = ports_of_joint plan V l (joint_of plan l) j in
      let g = there plan.parts (has_output (joint_of plan l).output) (joint_of plan l).giver (slice_get plan.parts (joint_of plan l).giver) refl P.0 in
      let t = there plan.parts (has_input (joint_of plan l).input) (joint_of plan l).taker (slice_get plan.parts (joint_of plan l).taker) refl P.1 in
      record {
        there_joint = j;
        there_flow = f;
        part = by_side g.0 t.0;
        part_there = both g.0 t.0 g.1 t.1;
        has_out = g.2;
        has_in = t.2;
        lawful = flows_lawful plan files.heads V R.flows R.fit R.scripted R.heads_are l (flow_of plan l) f;
      }
    where
      both : (g t : PartLine) → slice_get plan.parts (joint_of plan l).giver ≡ Some g → slice_get plan.parts (joint_of plan l).taker ≡ Some t
          → (side : Bool) → slice_get plan.parts (end_of side (joint_of plan l)).component ≡ Some (by_side g t side)
      both g t e f false = e
      both g t e f true = f

  pub kind_on : (l : ℕ) (K : IsLinkAt plan l) (side : Bool) → kind_in (slice_get plan.parts (end_of side (joint_of plan l)).component) ≡ kind_of (K.part side).form
  kind_on l K side = ap kind_in (K.part_there side)

  pub late_is : (l : ℕ) (K : IsLinkAt plan l) → is_late_link plan l ≡ is_late (kind_of (K.part false).form)
  late_is l K = ap (passes_at is_late) (K.part_there false)

  -- ---- what goes through its links

  -- what the component at a place gives
  abbrev own_flow : ℕ → PartLine → Flow
  own_flow place part = flow_by (kind_of part.form) (slice_get files.heads (source_number plan.parts place)) (into no_flow plan.joints plan.flows place)

  pub flow_given : (l : ℕ) (K : IsLinkAt plan l) → flow_of plan l ≡ own_flow (joint_of plan l).giver (K.part false)
  flow_given l K = given_flow plan files.heads R.valid R.flows R.fit R.scripted R.heads_are l (joint_of plan l) (flow_of plan l) (K.part false) K.there_joint K.there_flow (K.part_there false)

  taken_first : (l : ℕ) (K : IsLinkAt plan l) → (flow_of plan l).format ≡ format_into plan.joints plan.flows (joint_of plan l).taker 0
  taken_first l K = like_first plan files.heads R.valid R.flows R.fit R.scripted R.heads_are l (joint_of plan l) (flow_of plan l) K.there_joint K.there_flow

  other_format : (place : ℕ) (part : PartLine) → is_source (kind_of part.form) ≡ false → (own_flow place part).format ≡ given_format (kind_of part.form) (format_into plan.joints plan.flows place 0)
  other_format place part h = ap (λ (y : Flow). y.format) (flow_of_other (kind_of part.form) (slice_get files.heads (source_number plan.parts place)) (into no_flow plan.joints plan.flows place) h)

  -- a link's format is like the one that the component at its end gives
  like_own : (l : ℕ) (K : IsLinkAt plan l) (side : Bool) → IsLike (kind_of (K.part side).form) (flow_of plan l).format (own_flow (end_of side (joint_of plan l)).component (K.part side)).format
  like_own l K false =
      let e : (flow_of plan l).format ≡ (own_flow (joint_of plan l).giver (K.part false)).format = ap (λ (y : Flow). y.format) (flow_given l K) in
      record { rate = ap rate_of e; channels = ap channels_of e; same = λ h. e }
  like_own l K true =
      let kind : Kind = kind_of (K.part true).form in
      let first = taken_first l K in
      let own = other_format (joint_of plan l).taker (K.part true) (fed_kind kind (joint_of plan l).input K.has_in) in
      let F : Format = format_into plan.joints plan.flows (joint_of plan l).taker 0 in
      record {
        rate = ap rate_of first ∙ (sym (same_rate kind F) ∙ ap rate_of (sym own));
        channels = ap channels_of first ∙ (sym (same_channels kind F) ∙ ap channels_of (sym own));
        same = λ h. first ∙ (sym (splitter_gives kind F h) ∙ sym own);
      }

  -- the formats of two links at one component
  pub alike_flows : (side other : Bool) (k l : ℕ) (K : IsLinkAt plan k) (L : IsLinkAt plan l) → (end_of side (joint_of plan k)).component ≡ (end_of other (joint_of plan l)).component
      → (same_rate_and_channels (flow_of plan k).format (flow_of plan l).format ≡ true) × (is_splitter (kind_of (K.part side).form) ≡ true → (flow_of plan k).format ≡ (flow_of plan l).format)
  alike_flows side other k l K L c =
      let p = same_part plan.parts _ _ (K.part side) (L.part other) (K.part_there side) (L.part_there other) c in
      let own : (own_flow (end_of side (joint_of plan k)).component (K.part side)).format ≡ (own_flow (end_of other (joint_of plan l)).component (L.part other)).format = λ i. (own_flow (c i) (p i)).format in
      let A = like_own k K side in
      let B = like_own l L other in
      let rate : nat_eq (rate_of (flow_of plan k).format) (rate_of (flow_of plan l).format) ≡ true = eq-eqb _ _ (A.rate ∙ (ap rate_of own ∙ sym B.rate)) in
      let channels : nat_eq (channels_of (flow_of plan k).format) (channels_of (flow_of plan l).format) ≡ true = eq-eqb _ _ (A.channels ∙ (ap channels_of own ∙ sym B.channels)) in (
        rw (rate, channels) refl,
        λ h.
            let l_kind : is_splitter (kind_of (L.part other).form) ≡ true = ap (λ (y : PartLine). is_splitter (kind_of y.form)) (sym p) ∙ h in
            A.same h ∙ (own ∙ sym (B.same l_kind)),
      )

  alike_at : (side other : Bool) (k l : ℕ) (K : IsLinkAt plan k) (L : IsLinkAt plan l) → (end_of side (joint_of plan k)).component ≡ (end_of other (joint_of plan l)).component
      → is_auto (opening_format (is_late_link plan k) (flow_of plan k).format) ≡ false → is_auto (opening_format (is_late_link plan l) (flow_of plan l).format) ≡ false
      → AreAlike (assembly_of plan files) (end_of side (joint_of plan k)).component k l
  alike_at side other k l K L c a b =
      let A = alike_flows side other k l K L c in
      let f = not_late (is_late_link plan k) (flow_of plan k).format a in
      let g = not_late (is_late_link plan l) (flow_of plan l).format b in
      record {
        alike = (λ i. same_rate_and_channels (f i) (g i)) ∙ A.0;
        same = λ h.
            let k_kind : is_splitter (kind_of (K.part side).form) ≡ true = ap is_splitter (sym (kind_on k K side)) ∙ h in
            (λ i. same_format (f i) (g i)) ∙ (ap (λ (y : Format). same_format y (flow_of plan l).format) (A.1 k_kind) ∙ format_itself (flow_of plan l).format);
      }

  -- ---- its ends

  module _ (l : ℕ) (K : IsLinkAt plan l) where
    port_below : (side : Bool) → (end_of side (joint_of plan l)).port < ports_in (kind_of (K.part side).form)
    port_below false = ltb-true (joint_of plan l).output (ports_in (kind_of (K.part false).form)) (both_of (nat_le (inputs_of (kind_of (K.part false).form)) (joint_of plan l).output) _ K.has_out).1
    port_below true = let b = ltb-true (joint_of plan l).input (inputs_of (kind_of (K.part true).form)) K.has_in in omega arith

    direction : (side : Bool) → is_input (kind_of (K.part side).form) (end_of side (joint_of plan l)).port ≡ side
    direction false =
        let low = leb-true (inputs_of (kind_of (K.part false).form)) (joint_of plan l).output (both_of (nat_le (inputs_of (kind_of (K.part false).form)) (joint_of plan l).output) _ K.has_out).0 in
        le-ltb (joint_of plan l).output (inputs_of (kind_of (K.part false).form)) low
    direction true = K.has_in

    -- a format of its port
    pub known_format : (side : Bool) → is_format_of (kind_of (K.part side).form) side (flow_of plan l).format ≡ true
    known_format true =
        let F = fits_at plan R.valid R.fit l (joint_of plan l) (flow_of plan l) K.there_joint K.there_flow in
        let p = same_part plan.parts _ _ F.0 (K.part true) F.1 (K.part_there true) refl in
        ap (λ (y : PartLine). is_input_format (kind_of y.form) (flow_of plan l).format) (sym p) ∙ (F.2).taken
    known_format false =
        let kind : Kind = kind_of (K.part false).form in
        either (is_source kind)
        (λ h. source_output kind (flow_of plan l).format h (known_within (flow_of plan l).format (K.lawful).format))
        (λ h.
        let S = some_input kind (sized_form (K.part false).form ((R.scripted).parts (joint_of plan l).giver (K.part false) (K.part_there false))) h in
        let r = input_linked plan R.valid (joint_of plan l).giver (K.part false) 0 (K.part_there false) S in
        let w = slice_get_within plan.joints r.0 r.1 r.2 in
        let m = (R.valid).flows in
        let f = get_there plan.flows r.0 (omega arith) in
        let F = fits_at plan R.valid R.fit r.0 r.1 f.0 r.2 f.1 in
        let p = same_part plan.parts _ _ F.0 (K.part false) F.1 (K.part_there false) r.3 in
        let first = like_first plan files.heads R.valid R.flows R.fit R.scripted R.heads_are r.0 r.1 f.0 r.2 f.1 in
        let given : (f.0).format ≡ format_into plan.joints plan.flows (joint_of plan l).giver 0 = first ∙ ap (λ (q : ℕ). format_into plan.joints plan.flows q 0) r.3 in
        let taken : is_input_format kind (format_into plan.joints plan.flows (joint_of plan l).giver 0) ≡ true = (λ i. is_input_format (kind_of (sym p i).form) (sym given i)) ∙ (F.2).taken in
        let sink : is_sink kind ≡ false = either (is_sink kind)
        (λ t.
        let none = no_output kind t in
        let low = direction false in
        let a = port_below false in
        let b = leb-true (inputs_of kind) (joint_of plan l).output (both_of (nat_le (inputs_of kind) (joint_of plan l).output) _ K.has_out).0 in
        absurd (omega arith))
        (λ t. t)
        in
        let gives : (flow_of plan l).format ≡ given_format kind (format_into plan.joints plan.flows (joint_of plan l).giver 0) = ap (λ (y : Flow). y.format) (flow_given l K) ∙ other_format (joint_of plan l).giver (K.part false) h in
        ap (is_output_format kind) gives ∙ given_output kind (format_into plan.joints plan.flows (joint_of plan l).giver 0) h sink taken)

    port_format : (side : Bool) → is_port_format (kind_of (K.part side).form) side (opening_format (is_late_link plan l) (flow_of plan l).format) ≡ true
    port_format side = either (is_late_link plan l)
        (λ t. ap (λ (b : Bool). is_port_format (kind_of (K.part side).form) side (opening_format b (flow_of plan l).format)) t ∙ open_so side t)
        (λ t. ap (λ (b : Bool). is_port_format (kind_of (K.part side).form) side (opening_format b (flow_of plan l).format)) t ∙ ap (λ (b : Bool). b || (is_auto (flow_of plan l).format && (side || is_late (kind_of (K.part side).form)))) (known_format side))
      where
        open_so : (s : Bool) → is_late_link plan l ≡ true → is_port_format (kind_of (K.part s).form) s Auto ≡ true
        open_so true t = or_right (is_input_format (kind_of (K.part true).form) Auto)
        open_so false t = let e : is_late (kind_of (K.part false).form) ≡ true = sym (late_is l K) ∙ t in ap (λ (b : Bool). is_output_format (kind_of (K.part false).form) Auto || b) e ∙ or_right (is_output_format (kind_of (K.part false).form) Auto)

    definition : (side : Bool) → is_definition_of side (definition_of (assembly_of plan files) side l) ≡ true
    definition side =
        let W = (R.scripted).joints l (joint_of plan l) K.there_joint in
        let F : Format = (flow_of plan l).format in
        let fits = fits_joint plan R.valid R.fit l (joint_of plan l) (flow_of plan l) K.there_joint K.there_flow in
        either (is_late_link plan l)
        (λ t. definition_good side (opening_format (is_late_link plan l) F) (joint_of plan l).count (joint_of plan l).size (ap (λ (b : Bool). is_within_limits (opening_format b F)) t) W
        (subst (λ (b : Bool). frame_bytes_of (opening_format b F) ≤ (joint_of plan l).size) (sym t) W.one_byte))
        (λ t. definition_good side (opening_format (is_late_link plan l) F) (joint_of plan l).count (joint_of plan l).size (ap (λ (b : Bool). is_within_limits (opening_format b F)) t ∙ within_so F (K.lawful).format) W
        (subst (λ (b : Bool). frame_bytes_of (opening_format b F) ≤ (joint_of plan l).size) (sym t) fits))

    end_lawful : (side : Bool) → IsLawfulEnd (assembly_of plan files) side l
    end_lawful side =
        let e = sym (kind_on l K side) in
        record {
          there = slice_get_within plan.parts (end_of side (joint_of plan l)).component (K.part side) (K.part_there side);
          port = subst (λ (k : Kind). (end_of side (joint_of plan l)).port < ports_in k) e (port_below side);
          direction = subst (λ (k : Kind). is_input k (end_of side (joint_of plan l)).port ≡ side) e (direction side);
          definition = definition side;
          format = subst (λ (k : Kind). is_port_format k side (opening_format (is_late_link plan l) (flow_of plan l).format) ≡ true) e (port_format side);
        }

-- ---- files

-- a file that may come to a component of the kind
record IsGoodFile (plan : PlanValue) (kind : Kind) (place : ℕ) (file : Offered) : Type 0 where
  for_kind : is_for_kind kind file ≡ true
  good : (side : Bool) (l : ℕ) → l < length plan.joints → end_of side (joint_of plan l) ≡ record { component = place; port = 0 }
      → is_bad_file kind (opening_format (is_late_link plan l) (flow_of plan l).format) file ≡ false

head_fits : (head : WavHead) → IsLawfulHead head → is_too_large head.frames head.format ≡ false
head_fits head L = let b = L.bytes in le-ltb 134217728 (head.frames * frame_bytes_of head.format) (omega arith)

source_good : (port : Format) (head : WavHead) (there : ℕ) (known : Option (List ℕ)) → port ≡ head.format → IsLawfulHead head → head.frames * frame_bytes_of head.format ≤ there
    → is_bad_file kinds.Source port (OfferedFrom head.format head.frames there known) ≡ false
source_good port head bytes known e L b =
    let s : same_format head.format port ≡ true = ap (same_format head.format) e ∙ format_itself head.format in
    let large = head_fits head L in
    let short : nat_lt bytes (head.frames * frame_bytes_of head.format) ≡ false = le-ltb bytes (head.frames * frame_bytes_of head.format) b in
    rw (s, large, short) refl

late_good : (port : Format) (head : WavHead) (there : ℕ) (known : Option (List ℕ)) → IsLawfulHead head → head.frames * frame_bytes_of head.format ≤ there
    → is_bad_file kinds.Late port (OfferedFrom head.format head.frames there known) ≡ false
late_good port head bytes known L b =
    let a = known_within head.format L.format in
    let w = within_so head.format L.format in
    let large = head_fits head L in
    let short : nat_lt bytes (head.frames * frame_bytes_of head.format) ≡ false = le-ltb bytes (head.frames * frame_bytes_of head.format) b in
    rw (w, a, large, short) refl

product_less : (n a b : ℕ) → a ≤ b → n * a ≤ n * b
product_less n a b l = grind arith

product_twice : (n a : ℕ) → n * (2 * a) ≡ 2 * (n * a)
product_twice n a = grind arith

sink_fits : (late : Bool) (flow : Flow) (frames : ℕ) → IsLawfulFlow flow → frames ≡ flow.frames → is_too_large frames (opening_format late flow.format) ≡ false
sink_fits late flow frames L e =
    let few : frame_bytes_of (opening_format late flow.format) ≤ 2 * channels_of flow.format = bytes_by late in
    let a = product_less frames (frame_bytes_of (opening_format late flow.format)) (2 * channels_of flow.format) few in
    let b = product_twice frames (channels_of flow.format) in
    let c : frames * channels_of flow.format ≤ most_bytes = subst (λ (n : ℕ). n * channels_of flow.format ≤ most_bytes) (sym e) L.samples in
    le-ltb 134217728 (frames * frame_bytes_of (opening_format late flow.format)) (omega arith)
  where
    bytes_by : (b : Bool) → frame_bytes_of (opening_format b flow.format) ≤ 2 * channels_of flow.format
    bytes_by true = let s = (L.format).some_channel in omega arith
    bytes_by false = few_bytes flow.format L.format

module _ (plan : PlanValue) (files : PlayFiles) (R : IsReady plan files) (place : ℕ) (part : PartLine) (e : slice_get plan.parts place ≡ Some part) where
  -- the link at port 0 of a component without inputs goes out of it, and that of one without outputs into it
  goes_out : inputs_of (kind_of part.form) ≡ 0 → (side : Bool) (l : ℕ) (K : IsLinkAt plan l) → end_of side (joint_of plan l) ≡ record { component = place; port = 0 } → side ≡ false
  goes_out n false l K k = refl
  goes_out n true l K k =
      let p = same_part plan.parts _ _ (K.part true) part (K.part_there true) e (ap (λ y. y.component) k) in
      let z : (joint_of plan l).input ≡ 0 = ap (λ y. y.port) k in
      let b = ltb-true (joint_of plan l).input (inputs_of (kind_of (K.part true).form)) K.has_in in
      let same : inputs_of (kind_of (K.part true).form) ≡ inputs_of (kind_of part.form) = ap (λ (y : PartLine). inputs_of (kind_of y.form)) p in
      absurd (omega arith)

  goes_in : 1 ≤ inputs_of (kind_of part.form) → (side : Bool) (l : ℕ) (K : IsLinkAt plan l) → end_of side (joint_of plan l) ≡ record { component = place; port = 0 } → side ≡ true
  goes_in n true l K k = refl
  goes_in n false l K k =
      let p = same_part plan.parts _ _ (K.part false) part (K.part_there false) e (ap (λ y. y.component) k) in
      let z : (joint_of plan l).output ≡ 0 = ap (λ y. y.port) k in
      let b = leb-true (inputs_of (kind_of (K.part false).form)) (joint_of plan l).output (both_of (nat_le (inputs_of (kind_of (K.part false).form)) (joint_of plan l).output) _ K.has_out).0 in
      let same : inputs_of (kind_of (K.part false).form) ≡ inputs_of (kind_of part.form) = ap (λ (y : PartLine). inputs_of (kind_of y.form)) p in
      absurd (omega arith)

  abbrev file_with : Kind → Option Offered
  file_with kind = file_of kind (slice_get files.heads (source_number plan.parts place)) (slice_index_or plan.frames place 0) (files.there place) (files.known place)

  file_good : (kind : Kind) → kind_of part.form ≡ kind → (file : Offered) → file_with kind ≡ Some file → IsGoodFile plan kind place file
  file_good kinds.Source k file f =
      let is_one : is_source (kind_of part.form) ≡ true = ap is_source k in
      let H = head_there plan files.heads R.valid R.flows R.fit R.scripted R.heads_are place part e is_one in
      let head : WavHead = H.0 in
      let offered : Offered = OfferedFrom head.format head.frames (files.there place) (files.known place) in
      let s : Some offered ≡ Some file = ap (λ (o : Option WavHead). source_file o (files.there place) (files.known place)) (sym H.1) ∙ f in
      let is : offered ≡ file = cc in
      let bytes = R.bytes place part head e is_one H.1 in
      record {
        for_kind = ap (is_for_kind kinds.Source) (sym is);
        good = λ side l b x.
            let K = link_is plan files R l b in
            let out = goes_out (ap inputs_of k) side l K x in
            let there : (joint_of plan l).giver ≡ place = ap (λ y. y.component) (ap (λ (t : Bool). end_of t (joint_of plan l)) (sym out) ∙ x) in
            let p = same_part plan.parts _ _ (K.part false) part (K.part_there false) e there in
            let kind_is : kind_of (K.part false).form ≡ kinds.Source = ap (λ (y : PartLine). kind_of y.form) p ∙ k in
            let late : is_late_link plan l ≡ false = late_is plan files R l K ∙ ap is_late kind_is in
            let given : flow_of plan l ≡ flow_of_head (Some head) =
            flow_given plan files R l K ∙ (flow_of_source (kind_of (K.part false).form) _ (into no_flow plan.joints plan.flows (joint_of plan l).giver) (ap is_source kind_is)
            ∙ (ap (λ (n : ℕ). flow_of_head (slice_get files.heads (source_number plan.parts n))) there ∙ ap flow_of_head H.1))
            in
            let port : opening_format (is_late_link plan l) (flow_of plan l).format ≡ head.format = ap (λ (t : Bool). opening_format t (flow_of plan l).format) late ∙ ap (λ (y : Flow). y.format) given in
            ap (is_bad_file kinds.Source (opening_format (is_late_link plan l) (flow_of plan l).format)) (sym is) ∙ source_good (opening_format (is_late_link plan l) (flow_of plan l).format) head (files.there place) (files.known place) port H.2 bytes;
      }
  file_good kinds.Late k file f =
      let is_one : is_source (kind_of part.form) ≡ true = ap is_source k in
      let H = head_there plan files.heads R.valid R.flows R.fit R.scripted R.heads_are place part e is_one in
      let head : WavHead = H.0 in
      let offered : Offered = OfferedFrom head.format head.frames (files.there place) (files.known place) in
      let s : Some offered ≡ Some file = ap (λ (o : Option WavHead). source_file o (files.there place) (files.known place)) (sym H.1) ∙ f in
      let is : offered ≡ file = cc in
      let bytes = R.bytes place part head e is_one H.1 in
      record {
        for_kind = ap (is_for_kind kinds.Late) (sym is);
        good = λ side l b x. ap (is_bad_file kinds.Late (opening_format (is_late_link plan l) (flow_of plan l).format)) (sym is) ∙ late_good (opening_format (is_late_link plan l) (flow_of plan l).format) head (files.there place) (files.known place) H.2 bytes;
      }
  file_good kinds.Sink k file f =
      let frames : ℕ = slice_index_or plan.frames place 0 in
      let offered : Offered = OfferedTo frames (files.known place) in
      let is : offered ≡ file = cc in
      let F = (R.frames).each place part e in
      let planned : frames ≡ (flow_by (kind_of part.form) (slice_get files.heads (source_number plan.parts place)) (into no_flow plan.joints plan.flows place)).frames = get_or_from_slice_get plan.frames place _ 0 F in
      record {
        for_kind = ap (is_for_kind kinds.Sink) (sym is);
        good = λ side l b x.
            let K = link_is plan files R l b in
            let m : inputs_of (kind_of part.form) ≡ 1 = ap inputs_of k in
            let in_ = goes_in (omega arith) side l K x in
            let end_is : end_of true (joint_of plan l) ≡ record { component = place; port = 0 } = ap (λ (t : Bool). end_of t (joint_of plan l)) (sym in_) ∙ x in
            let comes = incoming_is plan R.valid l (joint_of plan l) (flow_of plan l) K.there_joint K.there_flow in
            let first : into no_flow plan.joints plan.flows place 0 ≡ flow_of plan l = (λ i. into no_flow plan.joints plan.flows (sym end_is i).component (sym end_is i).port) ∙ comes in
            let own : frames ≡ max 0 (into no_flow plan.joints plan.flows place 0).frames =
            planned ∙ ap (λ (y : Kind). (flow_by y (slice_get files.heads (source_number plan.parts place)) (into no_flow plan.joints plan.flows place)).frames) k
            in
            let same : (into no_flow plan.joints plan.flows place 0).frames ≡ (flow_of plan l).frames = ap (λ (y : Flow). y.frames) first in
            let e2 : frames ≡ (flow_of plan l).frames = omega arith in
            ap (is_bad_file kinds.Sink (opening_format (is_late_link plan l) (flow_of plan l).format)) (sym is) ∙ sink_fits (is_late_link plan l) (flow_of plan l) frames K.lawful e2;
      }
  file_good _ k file f = absurd cc

-- the frames of a sink, in the format of its link
module _ (plan : PlanValue) (files : PlayFiles) (R : IsReady plan files) where
  pub sink_roomy : (place : ℕ) (part : PartLine) (l : ℕ) → slice_get plan.parts place ≡ Some part → kind_of part.form ≡ kinds.Sink → (K : IsLinkAt plan l) → (joint_of plan l).taker ≡ place
      → is_too_large (slice_index_or plan.frames place 0) (flow_of plan l).format ≡ false
  sink_roomy place part l e k K t =
      let frames : ℕ = slice_index_or plan.frames place 0 in
      let p = same_part plan.parts _ _ (K.part true) part (K.part_there true) e t in
      let m : inputs_of (kind_of (K.part true).form) ≡ 1 = ap (λ (y : PartLine). inputs_of (kind_of y.form)) p ∙ ap inputs_of k in
      let low = ltb-true (joint_of plan l).input (inputs_of (kind_of (K.part true).form)) K.has_in in
      let input : (joint_of plan l).input ≡ 0 = omega arith in
      let planned : frames ≡ (flow_by (kind_of part.form) (slice_get files.heads (source_number plan.parts place)) (into no_flow plan.joints plan.flows place)).frames = get_or_from_slice_get plan.frames place _ 0 ((R.frames).each place part e) in
      let comes = incoming_is plan R.valid l (joint_of plan l) (flow_of plan l) K.there_joint K.there_flow in
      let first : into no_flow plan.joints plan.flows place 0 ≡ flow_of plan l = (λ i. into no_flow plan.joints plan.flows (sym t i) (sym input i)) ∙ comes in
      let own : frames ≡ max 0 (into no_flow plan.joints plan.flows place 0).frames =
      planned ∙ ap (λ (y : Kind). (flow_by y (slice_get files.heads (source_number plan.parts place)) (into no_flow plan.joints plan.flows place)).frames) k
      in
      let same : (into no_flow plan.joints plan.flows place 0).frames ≡ (flow_of plan l).frames = ap (λ (y : Flow). y.frames) first in
      sink_fits false (flow_of plan l) frames K.lawful (omega arith)

-- ---- the whole

module _ (plan : PlanValue) (files : PlayFiles) (R : IsReady plan files) where
  part_at : (place : ℕ) → place < length plan.parts → (part : PartLine) × (slice_get plan.parts place ≡ Some part)
  part_at place b = get_there plan.parts place b

  file_lawful : (place : ℕ) (file : Offered) → place < length plan.parts → file_at plan files place ≡ Some file → IsLawfulFile (assembly_of plan files) place file
  file_lawful place file b f =
      let p = part_at place b in
      let kind_is : kind_in (slice_get plan.parts place) ≡ kind_of (p.0).form = ap kind_in p.1 in
      let G = file_good plan files R place p.0 p.1 (kind_of (p.0).form) refl file (ap (λ (k : Kind). file_with plan files R place p.0 p.1 k) (sym kind_is) ∙ f) in
      record {
        kind = ap (λ (k : Kind). is_for_kind k file) kind_is ∙ G.for_kind;
        format = λ side l d x. ap (λ (k : Kind). is_bad_file k (opening_format (is_late_link plan l) (flow_of plan l).format) file) kind_is ∙ G.good side l d x;
      }

  one_end : (side other : Bool) (k l : ℕ) → k < length plan.joints → l < length plan.joints → end_of side (joint_of plan k) ≡ end_of other (joint_of plan l) → (side ≡ other) × (k ≡ l)
  one_end false false k l a b e =
      let K = link_is plan files R k a in
      let L = link_is plan files R l b in
      (refl, one_output plan R.valid k l (joint_of plan l) (joint_of plan k) K.there_joint L.there_joint (ap (λ y. y.component) e) (ap (λ y. y.port) e))
  one_end true true k l a b e =
      let K = link_is plan files R k a in
      let L = link_is plan files R l b in
      (refl, one_input plan R.valid k l (joint_of plan l) (joint_of plan k) K.there_joint L.there_joint (ap (λ y. y.component) e) (ap (λ y. y.port) e))
  one_end false true k l a b e =
      let K = link_is plan files R k a in
      let L = link_is plan files R l b in
      absurd (no_both plan R.valid k l (joint_of plan l) (joint_of plan k) K.there_joint L.there_joint (ap (λ y. y.component) e) (ap (λ y. y.port) e))
  one_end true false k l a b e =
      let K = link_is plan files R k a in
      let L = link_is plan files R l b in
      absurd (no_both plan R.valid l k (joint_of plan k) (joint_of plan l) L.there_joint K.there_joint (ap (λ y. y.component) (sym e)) (ap (λ y. y.port) (sym e)))

  apart_at : (l : ℕ) → l < length plan.joints → (joint_of plan l).giver ≢ (joint_of plan l).taker
  apart_at l b e =
      let K = link_is plan files R l b in
      let O = (R.valid).placed in
      let t = turn_of plan.joints (length plan.parts) plan.order O (joint_of plan l).taker (slice_get_within plan.parts (joint_of plan l).taker (K.part true) (K.part_there true)) in
      let f = fed_before plan.joints (length plan.parts) plan.order O t.0 l (joint_of plan l) K.there_joint t.2 in
      let same = one_turn plan.joints (length plan.parts) plan.order O f.0 t.0 (joint_of plan l).taker (f.2 ∙ ap (λ (q : ℕ). Some q) e) t.2 in
      let before = f.1 in
      absurd (omega arith)

  each_port : (place port : ℕ) → place < length plan.parts → port < ports_in (kind_in (slice_get plan.parts place)) → IsEndOf (assembly_of plan files) place port
  each_port place port b below =
      let p = part_at place b in
      let kind : Kind = kind_of (p.0).form in
      let low : port < ports_in kind = subst (λ (k : Kind). port < ports_in k) (ap kind_in p.1) below in
      either (nat_lt port (inputs_of kind))
      (λ t.
      let r = input_linked plan R.valid place p.0 port p.1 (ltb-true port (inputs_of kind) t) in
      let is : joint_of plan r.0 ≡ r.1 = get_or_from_slice_get plan.joints r.0 r.1 no_joint r.2 in
      record { side = true; link = r.0; below = slice_get_within plan.joints r.0 r.1 r.2; end = ap (end_of true) is ∙ (λ i. record { component = r.3 i; port = r.4 i }) })
      (λ t.
      let r = output_linked plan R.valid place p.0 port p.1 (ltb-false port (inputs_of kind) t) low in
      let is : joint_of plan r.0 ≡ r.1 = get_or_from_slice_get plan.joints r.0 r.1 no_joint r.2 in
      record { side = false; link = r.0; below = slice_get_within plan.joints r.0 r.1 r.2; end = ap (end_of false) is ∙ (λ i. record { component = r.3 i; port = r.4 i }) })

  pub plan_lawful : IsLawful (assembly_of plan files)
  plan_lawful = record {
    few = (R.valid).most;
    sized = λ c b. let p = part_at c b in subst IsSized (sym (ap kind_in p.1)) (sized_form (p.0).form ((R.scripted).parts c p.0 p.1));
    factors = λ c b. let p = part_at c b in (λ i. length (factors_in (p.1 i))) ∙ (factor_many (p.0).form ∙ ap (λ (o : Option PartLine). factor_count (kind_in o)) (sym p.1));
    small = λ c i factor b e. let p = part_at c b in factor_small (p.0).form ((R.scripted).parts c p.0 p.1) i factor (ap (λ (o : Option PartLine). slice_get (factors_in o) i) (sym p.1) ∙ e);
    files = λ c file b f. file_lawful c file b f;
    apart = apart_at;
    ends = λ side l b. end_lawful plan files R l (link_is plan files R l b) side;
    each = each_port;
    one = one_end;
    fit = λ side other k l a b c x y. alike_at plan files R side other k l (link_is plan files R k a) (link_is plan files R l b) c x y;
  }
