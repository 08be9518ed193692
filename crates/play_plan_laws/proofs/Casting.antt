-- The cast of a valid plan that fits is a cast.
use Rattle.std.proofs.Common.{◌≡◌, ℕ, ◌/◌, ◌<◌, ◌≤◌, false, List, length, slice_get, Option, Some, refl, sym, ◌∙◌, ap, ltb-true, arith}
use Rattle.std.proofs.lemmas.Option.{slice_get_within}
use Rattle.omx_types.specs.Formats.{frame_bytes_of}
use Rattle.part_forms.specs.Kinds.{inputs_of, is_source}
use Rattle.il_machine.specs.declared.port.PortKey.{PortKey}
use Rattle.il_machine.specs.Kinds.{is_sink}
use Rattle.script_lang.specs.declared.play_line.PartLine.{PartLine}
use Rattle.wav_form.specs.declared.heads.WavHead.{WavHead}
use Rattle.play_model.specs.Network.{IsInput, IsNetwork, IsOutput}
use Rattle.play_forms.specs.declared.flow.Flow.{Flow}
use Rattle.play_forms.specs.declared.joint.Joint.{Joint}
use Rattle.play_forms.specs.Flows.{AreFlows, AreFrames, flow_at, most_frames, no_flow}
use Rattle.play_forms.specs.Parts.{kind_of, has_input}
use Rattle.play_forms.specs.Plans.{PlanValue, IsFit, IsValid}
use Rattle.play_forms.specs.Settling.{into}
use Rattle.stream_plan.proofs.Flows.{flow_of_other}
use Rattle.play_world_laws.specs.Cast.{Cast, IsCast, components_of, links_of, script_place, giver_of, taker_of}
use Rattle.play_world_laws.proofs.Lists.{get_there}
use Rattle.play_plan_laws.specs.Casting.{IsPartCast, IsLinkCast, IsCastOf, IsInLimits}
use Rattle.play_plan_laws.proofs.Links.{input_linked, output_linked, div_some, fed_before, fed_kind, fits_joint, incoming_is, most_is, most_low, no_both, one_input, one_output, one_turn, ports_of_joint, some_input, some_output, sum_is, there, turn_of}

-- ---- the plan

module _ (plan : PlanValue) (heads : List WavHead) (x : Cast) (V : IsValid plan) (F : AreFlows plan.parts plan.joints heads plan.flows) (R : AreFrames plan.parts plan.joints heads plan.flows plan.frames)
    (T : IsFit plan) (L : IsInLimits plan) (C : IsCastOf plan x) where
  joint_at : (l : ℕ) → l < links_of x → (joint : Joint) × (slice_get plan.joints l ≡ Some joint)
  joint_at l d = let n = C.links in get_there plan.joints l (omega arith)

  flow_is_at : (l : ℕ) → l < links_of x → (flow : Flow) × (slice_get plan.flows l ≡ Some flow)
  flow_is_at l d = let n = C.links in let m = V.flows in get_there plan.flows l (omega arith)

  link_at : (l : ℕ) → l < links_of x → (joint : Joint) × (flow : Flow) × (slice_get plan.joints l ≡ Some joint) × (slice_get plan.flows l ≡ Some flow) × IsLinkCast plan x l joint flow
  link_at l d = let j = joint_at l d in let f = flow_is_at l d in (j.0, f.0, j.1, f.1, C.joints l j.0 f.0 j.1 f.1)

  part_there : (c : ℕ) → c < components_of x → (part : PartLine) × (slice_get plan.parts (script_place x c) ≡ Some part) × IsPartCast plan x c part
  part_there c d =
      let N = (V.placed).placed c (script_place x c) (C.placed c d) in
      let p = get_there plan.parts (script_place x c) N.there in
      (p.0, p.1, C.parts c p.0 d p.1)

  turn_is : (c place : ℕ) → c < components_of x → slice_get plan.order c ≡ Some place → script_place x c ≡ place
  turn_is c place d e = let s : Some (script_place x c) ≡ Some place = sym (C.placed c d) ∙ e in cc

  -- a giver has its turn before its taker
  ordered : (l : ℕ) → l < links_of x → giver_of x l < taker_of x l
  ordered l d =
      let K = link_at l d in
      let J = K.4 in
      let O = V.placed in
      let f = fed_before plan.joints (length plan.parts) plan.order O (taker_of x l) l K.0 K.2 (C.placed (taker_of x l) J.taker_below ∙ ap (λ (k : ℕ). Some k) J.taker) in
      let same = one_turn plan.joints (length plan.parts) plan.order O f.0 (giver_of x l) (K.0).giver f.2 (C.placed (giver_of x l) J.giver_below ∙ ap (λ (k : ℕ). Some k) J.giver) in
      let b = f.1 in
      omega arith

  unit_some : (l : ℕ) → l < links_of x → 1 ≤ x.unit l
  unit_some l d = let K = link_at l d in let u = (K.4).unit in let b = L.flows l K.1 K.3 in omega arith

  -- the frames of a component are those that it gives
  frames_at : (c : ℕ) (d : c < components_of x) (part : PartLine) → slice_get plan.parts (script_place x c) ≡ Some part
      → ((x.layout).network).frames c ≡ (flow_at plan.parts heads (Some part) (script_place x c) (into no_flow plan.joints plan.flows (script_place x c))).frames
  frames_at c d part e =
      let P = C.parts c part d e in
      let s : Some (((x.layout).network).frames c) ≡ Some (flow_at plan.parts heads (Some part) (script_place x c) (into no_flow plan.joints plan.flows (script_place x c))).frames = sym P.frames ∙ R.each (script_place x c) part e in
      cc

  given_frames : (l : ℕ) (d : l < links_of x) → ((x.layout).network).frames (giver_of x l) ≡ (link_at l d).1.frames
  given_frames l d =
      let K = link_at l d in
      let J = K.4 in
      let p = part_there (giver_of x l) J.giver_below in
      let a = frames_at (giver_of x l) J.giver_below p.0 p.1 in
      let g = J.giver in
      let rule : slice_get plan.flows l ≡ Some (flow_at plan.parts heads (slice_get plan.parts (K.0).giver) (K.0).giver (into no_flow plan.joints plan.flows (K.0).giver)) = F.each l K.0 K.2 in
      let there2 : slice_get plan.parts (K.0).giver ≡ Some p.0 = ap (slice_get plan.parts) (sym g) ∙ p.1 in
      let s : Some K.1 ≡ Some (flow_at plan.parts heads (Some p.0) (script_place x (giver_of x l)) (into no_flow plan.joints plan.flows (script_place x (giver_of x l)))) =
      sym K.3 ∙ (rule ∙ (ap (λ (o : Option PartLine). Some (flow_at plan.parts heads o (K.0).giver (into no_flow plan.joints plan.flows (K.0).giver))) there2
      ∙ ap (λ (q : ℕ). Some (flow_at plan.parts heads (Some p.0) q (into no_flow plan.joints plan.flows q))) (sym g))) in
      let is : K.1 ≡ flow_at plan.parts heads (Some p.0) (script_place x (giver_of x l)) (into no_flow plan.joints plan.flows (script_place x (giver_of x l))) = cc in
      a ∙ sym (ap (λ (q : Flow). q.frames) is)

  -- ---- the network

  taken_at : (l : ℕ) → l < links_of x → (part : PartLine) × (slice_get plan.parts (script_place x (taker_of x l)) ≡ Some part) × (is_source (kind_of part.form) ≡ false) × (IsPartCast plan x (taker_of x l) part)
  taken_at l d =
      let K = link_at l d in
      let J = K.4 in
      let q = there plan.parts (has_input (K.0).input) (K.0).taker (slice_get plan.parts (K.0).taker) refl (ports_of_joint plan V l K.0 K.2).1 in
      let e : slice_get plan.parts (script_place x (taker_of x l)) ≡ Some q.0 = ap (slice_get plan.parts) J.taker ∙ q.1 in
      (q.0, e, fed_kind (kind_of (q.0).form) (K.0).input q.2, C.parts (taker_of x l) q.0 J.taker_below e)

  -- a component that takes does as many frames as its longest input
  other_frames : (c : ℕ) (d : c < components_of x) (part : PartLine) → slice_get plan.parts (script_place x c) ≡ Some part → is_source (kind_of part.form) ≡ false
      → ((x.layout).network).frames c ≡ most_frames (inputs_of (kind_of part.form)) (into no_flow plan.joints plan.flows (script_place x c))
  other_frames c d part e s = frames_at c d part e ∙ ap (λ (y : Flow). y.frames) (flow_of_other (kind_of part.form) _ (into no_flow plan.joints plan.flows (script_place x c)) s)

  incoming_frames : (l : ℕ) (d : l < links_of x) → (into no_flow plan.joints plan.flows (script_place x (taker_of x l)) (link_at l d).0.input).frames ≡ ((x.layout).network).frames (giver_of x l)
  incoming_frames l d =
      let K = link_at l d in
      let J = K.4 in
      ap (λ (q : ℕ). (into no_flow plan.joints plan.flows q (K.0).input).frames) J.taker ∙ (ap (λ (y : Flow). y.frames) (incoming_is plan V l K.0 K.1 K.2 K.3) ∙ sym (given_frames l d))

  no_more_frames : (l : ℕ) → l < links_of x → ((x.layout).network).frames (giver_of x l) ≤ ((x.layout).network).frames (taker_of x l)
  no_more_frames l d =
      let K = link_at l d in
      let J = K.4 in
      let P = taken_at l d in
      let q = there plan.parts (has_input (K.0).input) (K.0).taker (slice_get plan.parts (K.0).taker) refl (ports_of_joint plan V l K.0 K.2).1 in
      let s : Some q.0 ≡ Some P.0 = sym q.1 ∙ (ap (slice_get plan.parts) (sym J.taker) ∙ P.1) in
      let is : q.0 ≡ P.0 = cc in
      let low = ltb-true (K.0).input (inputs_of (kind_of (q.0).form)) q.2 in
      let same : inputs_of (kind_of (q.0).form) ≡ inputs_of (kind_of (P.0).form) = ap (λ (y : PartLine). inputs_of (kind_of y.form)) is in
      let most = most_low (inputs_of (kind_of (P.0).form)) (into no_flow plan.joints plan.flows (script_place x (taker_of x l))) (K.0).input (omega arith) in
      let a = other_frames (taker_of x l) J.taker_below P.0 P.1 P.2 in
      let b = incoming_frames l d in
      omega arith

  -- the link at a port
  link_into : (c : ℕ) (d : c < components_of x) (part : PartLine) → slice_get plan.parts (script_place x c) ≡ Some part → (input : ℕ) → input < inputs_of (kind_of part.form) → (l : ℕ) × (b : l < links_of x) × (taker_of x l ≡ c) × ((link_at l b).0.input ≡ input)
  link_into c d part e input low =
      let r = input_linked plan V (script_place x c) part input e low in
      let w = slice_get_within plan.joints r.0 r.1 r.2 in
      let n = C.links in
      let b : r.0 < links_of x = omega arith in
      let K = link_at r.0 b in
      let s : Some K.0 ≡ Some r.1 = sym K.2 ∙ r.2 in
      let is : K.0 ≡ r.1 = cc in
      let J = K.4 in
      let here : script_place x (taker_of x r.0) ≡ script_place x c = J.taker ∙ (ap (λ (y : Joint). y.taker) is ∙ r.3) in
      let t = one_turn plan.joints (length plan.parts) plan.order V.placed (taker_of x r.0) c (script_place x c) (C.placed (taker_of x r.0) J.taker_below ∙ ap (λ (q : ℕ). Some q) here) (C.placed c d) in
      (r.0, b, t, ap (λ (y : Joint). y.input) is ∙ r.4)

  longest_is : (c : ℕ) → c < components_of x → ((x.layout).network).is_source c ≡ false → (l : ℕ) × IsInput (x.layout).network c l × (((x.layout).network).frames (giver_of x l) ≡ ((x.layout).network).frames c)
  longest_is c d s =
      let p = part_there c d in
      let kind : is_source (kind_of (p.0).form) ≡ false = sym (p.2).source ∙ s in
      let some = some_input (kind_of (p.0).form) (L.parts (script_place x c) p.0 p.1) kind in
      let m = most_is (inputs_of (kind_of (p.0).form)) (into no_flow plan.joints plan.flows (script_place x c)) some in
      let k = link_into c d p.0 p.1 m.0 m.1 in
      let a = other_frames c d p.0 p.1 kind in
      let b = incoming_frames k.0 k.1 in
      let v : (into no_flow plan.joints plan.flows (script_place x (taker_of x k.0)) (link_at k.0 k.1).0.input).frames ≡ (into no_flow plan.joints plan.flows (script_place x c) m.0).frames = let t = k.2 in let u = k.3 in λ i. (into no_flow plan.joints plan.flows (script_place x (t i)) (u i)).frames in
      (k.0, record { below = k.1; taken_by = k.2 }, sym b ∙ (v ∙ (m.2 ∙ sym a)))

  -- a component that is no sink has a link out of it
  gives_some : (c : ℕ) → c < components_of x → (x.layout).is_sink c ≡ false → (l : ℕ) × IsOutput (x.layout).network c l
  gives_some c d s =
      let p = part_there c d in
      let kind : is_sink (kind_of (p.0).form) ≡ false = sym (p.2).sink ∙ s in
      let some = some_output (kind_of (p.0).form) (L.parts (script_place x c) p.0 p.1) kind in
      let r = output_linked plan V (script_place x c) p.0 (inputs_of (kind_of (p.0).form)) p.1 (omega arith) (omega arith) in
      let w = slice_get_within plan.joints r.0 r.1 r.2 in
      let n = C.links in
      let b : r.0 < links_of x = omega arith in
      let K = link_at r.0 b in
      let t : Some K.0 ≡ Some r.1 = sym K.2 ∙ r.2 in
      let is : K.0 ≡ r.1 = cc in
      let J = K.4 in
      let here : script_place x (giver_of x r.0) ≡ script_place x c = J.giver ∙ (ap (λ (y : Joint). y.giver) is ∙ r.3) in
      let turn = one_turn plan.joints (length plan.parts) plan.order V.placed (giver_of x r.0) c (script_place x c) (C.placed (giver_of x r.0) J.giver_below ∙ ap (λ (q : ℕ). Some q) here) (C.placed c d) in
      (r.0, record { below = b; given_by = turn })

  is_network : IsNetwork (x.layout).network
  is_network = record {
    order = ordered;
    inside = λ l d. (link_at l d).4.taker_below;
    count = λ l d. let K = link_at l d in let u = (K.4).count in let b = L.joints l K.0 K.2 in omega arith;
    fits = λ l d.
        let K = link_at l d in
        let u = (K.4).fits in
        let some = div_some (K.0).size (frame_bytes_of (K.1).format) (L.flows l K.1 K.3) (fits_joint plan V T l K.0 K.1 K.2 K.3) in
        omega arith;
    unfed = λ l d. let P = taken_at l d in (P.3).source ∙ P.2;
    frames = no_more_frames;
    longest = longest_is;
  }

  pub cast_is : IsCast x
  cast_is = record {
    layout = record { network = is_network; outputs = gives_some };
    placed = λ c d. let N = (V.placed).placed c (script_place x c) (C.placed c d) in let n = C.components in let b = N.there in omega arith;
    each = λ place d.
        let n = C.components in
        let t = turn_of plan.joints (length plan.parts) plan.order V.placed place (omega arith) in
        let b = t.1 in
        let low : t.0 < components_of x = omega arith in
        (t.0, low, turn_is t.0 place low t.2);
    apart = λ c d a b h. one_turn plan.joints (length plan.parts) plan.order V.placed c d (script_place x c) (C.placed c a) (C.placed d b ∙ ap (λ (q : ℕ). Some q) (sym h));
    outputs = λ k l a b h.
        let K = link_at k a in
        let M = link_at l b in
        let g = (K.4).giver in
        let o = (K.4).output in
        let u = (M.4).giver in
        let v = (M.4).output in
        one_output plan V k l M.0 K.0 K.2 M.2 (sym g ∙ (ap (λ (y : PortKey). y.component) h ∙ u)) (sym o ∙ (ap (λ (y : PortKey). y.port) h ∙ v));
    inputs = λ k l a b h.
        let K = link_at k a in
        let M = link_at l b in
        one_input plan V k l M.0 K.0 K.2 M.2 (sym (K.4).taker ∙ (ap (λ (y : PortKey). y.component) h ∙ (M.4).taker)) (sym (K.4).input ∙ (ap (λ (y : PortKey). y.port) h ∙ (M.4).input));
    beside = λ k l a b h.
        let K = link_at k a in
        let M = link_at l b in
        no_both plan V k l M.0 K.0 K.2 M.2 (sym (K.4).giver ∙ (ap (λ (y : PortKey). y.component) h ∙ (M.4).taker)) (sym (K.4).output ∙ (ap (λ (y : PortKey). y.port) h ∙ (M.4).input));
    units = unit_some;
    fits = λ l d. let K = link_at l d in let J = K.4 in let s = J.size in let u = J.unit in J.fits ∙ (λ i. sym s i / sym u i);
    few =
        let e = sum_is (links_of x) ((x.layout).network).count plan.joints C.links (λ l joint h.
        let d = slice_get_within plan.joints l joint h in
        let n = C.links in
        let K = link_at l (omega arith) in
        let s : Some K.0 ≡ Some joint = sym K.2 ∙ h in
        let is : K.0 ≡ joint = cc in
        (K.4).count ∙ ap (λ (y : Joint). y.count) is) in
        let few = V.few in
        omega arith;
  }

pub plan_casts : (plan : PlanValue) (heads : List WavHead) (x : Cast) → IsValid plan → AreFlows plan.parts plan.joints heads plan.flows → AreFrames plan.parts plan.joints heads plan.flows plan.frames → IsFit plan → IsInLimits plan → IsCastOf plan x → IsCast x
plan_casts plan heads x V F R T L C = cast_is plan heads x V F R T L C
