use Rattle.std.proofs.Common.{◌≡◌, ℕ, length, get_or, ◌∙◌, ap}
use Rattle.play_forms.specs.Flows.{flow_rule, no_flow}
use Rattle.play_forms.specs.Settling.{into, with_given}
use Rattle.play_forms.proofs.Settled.{length-with_given}
use Rattle.stream_plan.proofs.Frames.{turn_given}
use Rattle.stream_plan.proofs.flowing.set_flows.Goals as goal

pub loop-place-preserved : goal.loop-place-preserved
loop-place-preserved c =
    let scene = c.args.scene in
    let joints = scene.joints.now in
    let flows = c.loop-place.flows in
    let order = c.args.order.now in
    let k = c.loop-place.place-index in
    let place = get_or order k 0 in
    let is : c.give.new.flows ≡ with_given (flow_rule scene.parts.now scene.heads.now place (into no_flow joints flows place)) joints flows place =
    c.give.ensures ∙ ap (λ flow. with_given (λ (output : ℕ). flow) joints flows place) c.flow_at-flow.ensures in
    record {
      many = ap length c.give.ensures ∙ length-with_given (λ (output : ℕ). c.flow_at-flow.result) joints flows place c.loop-place.invariant.many;
      along = turn_given scene.parts.now joints scene.heads.now order k flows c.give.new.flows _ c.loop-place-test.true is c.loop-place.invariant.along;
    }
