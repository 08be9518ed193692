use Rattle.std.proofs.Common.{◌≡◌, length, sym, ◌∙◌, ap}
use Rattle.play_forms.specs.Flows.{no_flow}
use Rattle.stream_plan.proofs.Flows.{into_past}
use Rattle.play_course.proofs.summary.flow_into.Goals as goal
use Rattle.play_course.proofs.summary.flow_into.Goals.{else-joints-number-via-then-joints-number+else-joints-number-eq0, else-joints-number-via-else-joints-number}

pub loop-number-preserved : goal.loop-number-preserved
loop-number-preserved c =
    let joints = c.joints-joints.result.now in
    let flows = c.flows-flows.result.now in
    let many : length flows ≡ length joints = ap length c.flows-flows.ensures ∙ (c.requires ∙ sym (ap length c.joints-joints.ensures)) in
    into_past no_flow joints flows c.loop-number.number c.args.place 0 _ no_flow c.loop-number-test.true many
    (elim c.else-joints-number.branch [
      | else-joints-number-via-then-joints-number+else-joints-number-eq0 w ↦ λ taken at. w.if-joints-number-eq0.false at
      | else-joints-number-via-else-joints-number w ↦ λ taken at. w.if-joints-number.false taken
    ])
    ∙ c.loop-number.invariant
