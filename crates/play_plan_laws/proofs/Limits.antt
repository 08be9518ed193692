-- What goes through the links of a plan is lawful, where the heads of its files are.
use Rattle.std.proofs.Common.{◌≡◌, ◌⊎◌, inl, inr, ℕ, zero, suc, ◌+◌, ◌*◌, ◌<◌, ◌≤◌, Bool, true, cond, List, [], ◌∷◌, length, take, slice_get, sum_by, count_by, Option, Some, refl, sym, ◌∙◌, ap, subst, arith}
use Rattle.std.proofs.lemmas.Option.{slice_get_within}
use Rattle.std.proofs.lemmas.List.Sums.{sum_by-cons}
use Rattle.omx_types.specs.declared.format.Format.{Format}
use Rattle.omx_types.specs.declared.format.Format.TheVariants.{Pcm, Alaw, Mulaw, Auto}
use Rattle.omx_types.specs.declared.kind.Kind.{Kind}
use Rattle.omx_types.specs.declared.kind.Kind.TheVariants as kinds
use Rattle.omx_types.specs.Formats.{IsWithinLimits, channels_of, frame_bytes_of, rate_of}
use Rattle.part_forms.specs.Kinds.{IsSized, inputs_of, is_source}
use Rattle.script_lang.specs.PlayForms.{IsPartForm}
use Rattle.script_lang.specs.declared.play_line.PartForm.{PartForm}
use Rattle.script_lang.specs.declared.play_line.PartForm.TheVariants as forms
use Rattle.script_lang.specs.declared.play_line.PartLine.{PartLine}
use Rattle.wav_form.specs.Reading.{most_bytes}
use Rattle.wav_form.specs.declared.heads.WavHead.{WavHead}
use Rattle.machine_laws.proofs.Finding.{either}
use Rattle.play_forms.specs.declared.flow.Flow.{Flow}
use Rattle.play_forms.specs.declared.joint.Joint.{Joint}
use Rattle.play_forms.specs.Fitting.{format_into}
use Rattle.play_forms.specs.Flows.{AreFlows, flow_at, flow_by, flow_of_head, given_format, most_frames, no_flow}
use Rattle.play_forms.specs.Parts.{has_output, is_source_part, kind_of, source_number}
use Rattle.play_forms.specs.Plans.{IsFit, IsValid, PlanValue}
use Rattle.play_forms.specs.Settling.{into}
use Rattle.stream_plan.proofs.Flows.{flow_of_other, flow_of_source}
use Rattle.play_world_laws.proofs.Lists.{get_there}
use Rattle.play_plan_laws.specs.Casting.{IsInLimits}
use Rattle.play_plan_laws.specs.Limits.{AreHeads, IsLawfulFlow, IsLawfulHead, IsScripted}
use Rattle.play_plan_laws.proofs.Links.{fed_before, fits_at, incoming_is, input_linked, most_is, ports_of_joint, some_input, there, turn_of}

pub sized_form : (form : PartForm) → IsPartForm form → IsSized (kind_of form)
sized_form (forms.Source file) h = tt
sized_form (forms.Late file) h = tt
sized_form forms.Decoder h = tt
sized_form forms.Alaw h = tt
sized_form forms.Mulaw h = tt
sized_form (forms.Gain gain) h = tt
sized_form (forms.Mixer weights) h = h.0
sized_form (forms.Splitter outputs) h = h
sized_form (forms.Sink file) h = tt

-- ---- formats

pub same_channels : (kind : Kind) (f : Format) → channels_of (given_format kind f) ≡ channels_of f
same_channels kinds.Decoder f = refl
same_channels kinds.Alaw f = refl
same_channels kinds.Mulaw f = refl
same_channels _ f = refl

pub same_rate : (kind : Kind) (f : Format) → rate_of (given_format kind f) ≡ rate_of f
same_rate kinds.Decoder f = refl
same_rate kinds.Alaw f = refl
same_rate kinds.Mulaw f = refl
same_rate _ f = refl

given_within : (kind : Kind) (f : Format) → IsWithinLimits f → IsWithinLimits (given_format kind f)
given_within kind f W =
    let r = same_rate kind f in
    let n = same_channels kind f in
    let a = W.some_rate in
    let b = W.rate in
    let c = W.some_channel in
    let d = W.channels in
    record { some_rate = omega arith; rate = omega arith; some_channel = omega arith; channels = omega arith }

pub few_channels : (f : Format) → IsWithinLimits f → channels_of f ≤ frame_bytes_of f
few_channels (Pcm rate channels) W = omega arith
few_channels (Alaw rate channels) W = omega arith
few_channels (Mulaw rate channels) W = omega arith
few_channels Auto W = omega arith

pub some_bytes : (f : Format) → IsWithinLimits f → 1 ≤ frame_bytes_of f
some_bytes f W = let a = few_channels f W in let b = W.some_channel in omega arith

product_less : (n a b : ℕ) → a ≤ b → n * a ≤ n * b
product_less n a b l = grind arith

-- ---- heads

-- a source has a head of its own
source_below : (parts : List PartLine) (place : ℕ) (part : PartLine) → slice_get parts place ≡ Some part → is_source_part part ≡ true → source_number parts place < count_by is_source_part parts
source_below [] place part e h = absurd cc
source_below (x ∷ parts) zero part e h =
    let is : x ≡ part = cc in
    let t : is_source_part x ≡ true = ap is_source_part is ∙ h in
    let c = sum_by-cons (λ (y : PartLine). cond (is_source_part y) 1 0) x parts in
    let d : sum_by (λ (y : PartLine). cond (is_source_part y) 1 0) (x ∷ parts) ≡ 1 + sum_by (λ (y : PartLine). cond (is_source_part y) 1 0) parts = c ∙ ap (λ (b : Bool). cond b 1 0 + sum_by (λ (y : PartLine). cond (is_source_part y) 1 0) parts) t in
    omega arith
source_below (x ∷ parts) (suc place) part e h =
    let i = source_below parts place part e h in
    let c = sum_by-cons (λ (y : PartLine). cond (is_source_part y) 1 0) x parts in
    let d = sum_by-cons (λ (y : PartLine). cond (is_source_part y) 1 0) x (take place parts) in
    omega arith

-- ---- flows

module _ (plan : PlanValue) (heads : List WavHead) (V : IsValid plan) (F : AreFlows plan.parts plan.joints heads plan.flows) (T : IsFit plan) (S : IsScripted plan) (H : AreHeads plan heads) where
  -- what a link has is what its giver gives
  pub given_flow : (l : ℕ) (joint : Joint) (flow : Flow) (part : PartLine) → slice_get plan.joints l ≡ Some joint → slice_get plan.flows l ≡ Some flow → slice_get plan.parts joint.giver ≡ Some part
      → flow ≡ flow_by (kind_of part.form) (slice_get heads (source_number plan.parts joint.giver)) (into no_flow plan.joints plan.flows joint.giver)
  given_flow l joint flow part e f g =
      let s : Some flow ≡ Some (flow_by (kind_of part.form) (slice_get heads (source_number plan.parts joint.giver)) (into no_flow plan.joints plan.flows joint.giver)) =
      sym f ∙ (F.each l joint e ∙ ap (λ (o : Option PartLine). Some (flow_at plan.parts heads o joint.giver (into no_flow plan.joints plan.flows joint.giver))) g)
      in
      cc

  -- the head of a source
  pub head_there : (place : ℕ) (part : PartLine) → slice_get plan.parts place ≡ Some part → is_source (kind_of part.form) ≡ true → (head : WavHead) × (slice_get heads (source_number plan.parts place) ≡ Some head) × IsLawfulHead head
  head_there place part e h =
      let b = source_below plan.parts place part e h in
      let m = H.many in
      let r = get_there heads (source_number plan.parts place) (omega arith) in
      (r.0, r.1, H.each (source_number plan.parts place) r.0 r.1)

  head_lawful : (head : WavHead) → IsLawfulHead head → IsLawfulFlow (flow_of_head (Some head))
  head_lawful head L =
      let a = product_less head.frames (channels_of head.format) (frame_bytes_of head.format) (few_channels head.format L.format) in
      let b = L.bytes in
      record { format = L.format; samples = omega arith }

  -- the format of an input is that of the first
  pub like_first : (l : ℕ) (joint : Joint) (flow : Flow) → slice_get plan.joints l ≡ Some joint → slice_get plan.flows l ≡ Some flow → flow.format ≡ format_into plan.joints plan.flows joint.taker 0
  like_first l joint flow e f = (fits_at plan V T l joint flow e f).2.same

  -- what the component of a turn takes is lawful, where what those before it give is
  abbrev Before : ℕ → Type 0
  Before n = (c place l : ℕ) (joint : Joint) (flow : Flow) → c < n → slice_get plan.order c ≡ Some place → slice_get plan.joints l ≡ Some joint → slice_get plan.flows l ≡ Some flow → joint.giver ≡ place → IsLawfulFlow flow

  flow_there : (l : ℕ) (joint : Joint) → slice_get plan.joints l ≡ Some joint → (flow : Flow) × (slice_get plan.flows l ≡ Some flow)
  flow_there l joint e = let w = slice_get_within plan.joints l joint e in let m = V.flows in get_there plan.flows l (omega arith)

  taken_lawful : (n place : ℕ) (part : PartLine) → Before n → slice_get plan.order n ≡ Some place → slice_get plan.parts place ≡ Some part → (input : ℕ) → input < inputs_of (kind_of part.form)
      → IsLawfulFlow (into no_flow plan.joints plan.flows place input) × ((into no_flow plan.joints plan.flows place input).format ≡ format_into plan.joints plan.flows place 0)
  taken_lawful n place part B t e input b =
      let k = input_linked plan V place part input e b in
      let f = flow_there k.0 k.1 k.2 in
      let g = fed_before plan.joints (length plan.parts) plan.order V.placed n k.0 k.1 k.2 (t ∙ ap (λ (q : ℕ). Some q) (sym k.3)) in
      let is : into no_flow plan.joints plan.flows place input ≡ f.0 = (λ i. into no_flow plan.joints plan.flows (sym k.3 i) (sym k.4 i)) ∙ incoming_is plan V k.0 k.1 f.0 k.2 f.1 in
      let lawful = B g.0 (k.1).giver k.0 k.1 f.0 g.1 g.2 k.2 f.1 refl in
      let first = like_first k.0 k.1 f.0 k.2 f.1 in
      (subst IsLawfulFlow (sym is) lawful, ap (λ (y : Flow). y.format) is ∙ (first ∙ ap (λ (q : ℕ). format_into plan.joints plan.flows q 0) k.3))

  one_lawful : (n place l : ℕ) (joint : Joint) (flow : Flow) → Before n → slice_get plan.order n ≡ Some place → slice_get plan.joints l ≡ Some joint → slice_get plan.flows l ≡ Some flow → joint.giver ≡ place → IsLawfulFlow flow
  one_lawful n place l joint flow B t e f g =
      let q = there plan.parts (has_output joint.output) joint.giver (slice_get plan.parts joint.giver) refl (ports_of_joint plan V l joint e).0 in
      let kind : Kind = kind_of (q.0).form in
      let is = given_flow l joint flow q.0 e f q.1 in
      either (is_source kind)
      (λ h.
      let d = head_there joint.giver q.0 q.1 h in
      let from : flow ≡ flow_of_head (Some d.0) = is ∙ (flow_of_source kind _ (into no_flow plan.joints plan.flows joint.giver) h ∙ ap flow_of_head d.1) in
      subst IsLawfulFlow (sym from) (head_lawful d.0 d.2))
      (λ h.
      let incoming : ℕ → Flow = into no_flow plan.joints plan.flows joint.giver in
      let from = is ∙ flow_of_other kind (slice_get heads (source_number plan.parts joint.giver)) incoming h in
      let some = some_input kind (sized_form (q.0).form (S.parts joint.giver q.0 q.1)) h in
      let turn : slice_get plan.order n ≡ Some joint.giver = t ∙ ap (λ (k : ℕ). Some k) (sym g) in
      let m = most_is (inputs_of kind) incoming some in
      let zero_in = taken_lawful n joint.giver q.0 B turn q.1 0 (omega arith) in
      let most_in = taken_lawful n joint.giver q.0 B turn q.1 m.0 m.1 in
      let F0 : Format = (incoming 0).format in
      let same : channels_of (incoming m.0).format ≡ channels_of (given_format kind F0) = ap channels_of (most_in.1 ∙ sym zero_in.1) ∙ sym (same_channels kind F0) in
      let whole : most_frames (inputs_of kind) incoming * channels_of (given_format kind F0) ≤ most_bytes =
      subst (λ (k : ℕ). most_frames (inputs_of kind) incoming * k ≤ most_bytes) same (subst (λ (k : ℕ). k * channels_of (incoming m.0).format ≤ most_bytes) m.2 most_in.0.samples)
      in
      subst IsLawfulFlow (sym from) (record { format = given_within kind F0 zero_in.0.format; samples = whole }))

  before_all : (n : ℕ) → Before n
  before_all zero c place l joint flow d t e f g = absurd (omega arith)
  before_all (suc n) c place l joint flow d t e f g = elim (at_last c n d) [
    | inl h ↦ before_all n c place l joint flow h t e f g
    | inr h ↦ one_lawful n place l joint flow (before_all n) (ap (slice_get plan.order) (sym h) ∙ t) e f g
  ]
    where
      at_last : (a b : ℕ) → a < suc b → (a < b) ⊎ (a ≡ b)
      at_last zero zero l = inr refl
      at_last zero (suc b) l = inl (omega arith)
      at_last (suc a) zero l = absurd (omega arith)
      at_last (suc a) (suc b) l = elim (at_last a b (omega arith)) [ inl h ↦ inl (omega arith) | inr h ↦ inr (ap suc h) ]

  pub flows_lawful : (l : ℕ) (flow : Flow) → slice_get plan.flows l ≡ Some flow → IsLawfulFlow flow
  flows_lawful l flow f =
      let w = slice_get_within plan.flows l flow f in
      let m = V.flows in
      let j = get_there plan.joints l (omega arith) in
      let q = there plan.parts (has_output (j.0).output) (j.0).giver (slice_get plan.parts (j.0).giver) refl (ports_of_joint plan V l j.0 j.1).0 in
      let t = turn_of plan.joints (length plan.parts) plan.order V.placed (j.0).giver (slice_get_within plan.parts (j.0).giver q.0 q.1) in
      before_all (suc t.0) t.0 (j.0).giver l j.0 flow (omega arith) t.2 j.1 f refl

  pub in_limits : IsInLimits plan
  in_limits = record {
    parts = λ place part e. sized_form part.form (S.parts place part e);
    joints = λ l joint e. (S.joints l joint e).some;
    flows = λ l flow f. some_bytes flow.format (flows_lawful l flow f).format;
  }
