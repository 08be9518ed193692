use Rattle.std.proofs.Common.{◌∙◌}
use Rattle.play_forms.specs.Flows.{no_flow}
use Rattle.stream_plan.proofs.Flows.{into_past}
use Rattle.stream_plan.proofs.flowing.flow_into.Goals as goal
use Rattle.stream_plan.proofs.flowing.flow_into.Goals.{else-joint-place-via-then-joint-place+else-joint-input, else-joint-place-via-else-joint-place}

pub loop-number-preserved : goal.loop-number-preserved
loop-number-preserved c =
    into_past no_flow c.args.joints.now c.args.flows.now c.loop-number.number c.args.place c.args.input _ no_flow c.loop-number-test.true c.requires
    (elim c.else-joint-place.branch [
      | else-joint-place-via-then-joint-place+else-joint-input w ↦ λ taken at. w.if-joint-input.false at
      | else-joint-place-via-else-joint-place w ↦ λ taken at. w.if-joint-place.false taken
    ])
    ∙ c.loop-number.invariant
