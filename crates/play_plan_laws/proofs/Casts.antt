-- Each valid plan has a cast.
use Rattle.std.proofs.Common.{◌≡◌, ℕ, ◌/◌, ◌<◌, Bool, slice_get, length, Some, refl, ◌∙◌, ap, arith}
use Rattle.std.proofs.lemmas.Option.{get_or_from_slice_get, slice_get-get_or, slice_get_within}
use Rattle.omx_types.specs.Formats.{frame_bytes_of}
use Rattle.part_forms.specs.Kinds.{is_late, is_source}
use Rattle.il_machine.specs.Kinds.{is_sink}
use Rattle.script_lang.specs.declared.play_line.PartLine.{PartLine}
use Rattle.play_forms.specs.declared.flow.Flow.{Flow}
use Rattle.play_forms.specs.declared.joint.Joint.{Joint}
use Rattle.play_forms.specs.Flows.{no_flow}
use Rattle.play_forms.specs.Parts.{passes_at}
use Rattle.play_forms.specs.Plans.{IsValid, PlanValue}
use Rattle.play_forms.proofs.Plainly.{givers_within}
use Rattle.play_plan_laws.specs.Casting.{IsPartCast, IsLinkCast, IsCastOf, cast_of, joint_of, flow_of, no_joint, place_of, turn_of}
use Rattle.play_plan_laws.proofs.Links.{takers_within}
use Rattle.play_plan_laws.proofs.Turns.{few_turns, all_turns, turn_at}

module _ (by_output : ℕ → Bool) (plan : PlanValue) (V : IsValid plan) where
  -- a component has its turn
  turn_is : (place : ℕ) → place < length plan.parts → (turn_of plan place < length plan.parts) × (place_of plan (turn_of plan place) ≡ place)
  turn_is place l =
      let e = turn_at plan.order place ((V.placed).all place l) in
      let w = slice_get_within plan.order (turn_of plan place) place e in
      let few = few_turns plan.joints (length plan.parts) plan.order V.placed in
      (omega arith, get_or_from_slice_get plan.order (turn_of plan place) place 0 e)

  part_cast : (c : ℕ) (part : PartLine) → slice_get plan.parts (place_of plan c) ≡ Some part → IsPartCast plan (cast_of by_output plan) c part
  part_cast c part e = record {
    source = ap (passes_at is_source) e;
    sink = ap (passes_at is_sink) e;
    frames = let l = slice_get_within plan.parts (place_of plan c) part e in let n = V.frames in slice_get-get_or plan.frames (place_of plan c) 0 (omega arith);
  }

  link_cast : (l : ℕ) (joint : Joint) (flow : Flow) → slice_get plan.joints l ≡ Some joint → slice_get plan.flows l ≡ Some flow → IsLinkCast plan (cast_of by_output plan) l joint flow
  link_cast l joint flow e f =
      let j : joint_of plan l ≡ joint = get_or_from_slice_get plan.joints l joint no_joint e in
      let v : flow_of plan l ≡ flow = get_or_from_slice_get plan.flows l flow no_flow f in
      let g = givers_within plan.parts plan.joints V.joined l joint e in
      let t = takers_within plan.parts plan.joints V.joined l joint e in
      let a = turn_is joint.giver g in
      let b = turn_is joint.taker t in
      let low : turn_of plan (joint_of plan l).giver ≡ turn_of plan joint.giver = ap (λ (y : Joint). turn_of plan y.giver) j in
      let high : turn_of plan (joint_of plan l).taker ≡ turn_of plan joint.taker = ap (λ (y : Joint). turn_of plan y.taker) j in
      let c = a.0 in
      let d = b.0 in
      record {
        giver_below = omega arith;
        taker_below = omega arith;
        giver = ap (place_of plan) low ∙ a.1;
        taker = ap (place_of plan) high ∙ b.1;
        output = ap (λ (y : Joint). y.output) j;
        input = ap (λ (y : Joint). y.input) j;
        count = ap (λ (y : Joint). y.count) j;
        size = ap (λ (y : Joint). y.size) j;
        unit = ap (λ (y : Flow). frame_bytes_of y.format) v;
        fits = λ i. (j i).size / frame_bytes_of (v i).format;
        late = ap (λ (y : Joint). passes_at is_late (slice_get plan.parts y.giver)) j;
      }

pub plan_has_cast : (plan : PlanValue) (by_output : ℕ → Bool) → IsValid plan → IsCastOf plan (cast_of by_output plan)
plan_has_cast plan by_output V = record {
  components = refl;
  links = refl;
  placed = λ c l. let n = all_turns plan.joints (length plan.parts) plan.order V.placed in slice_get-get_or plan.order c 0 (omega arith);
  parts = λ c part l e. part_cast by_output plan V c part e;
  joints = link_cast by_output plan V;
}
