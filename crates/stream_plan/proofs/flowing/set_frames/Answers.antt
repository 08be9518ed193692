use Rattle.std.proofs.Common.{arith}
use Rattle.stream_plan.proofs.Frames.{frames_all, frames_more}
use Rattle.stream_plan.proofs.flowing.set_frames.Goals as goal

pub loop-place-preserved : goal.loop-place-preserved
loop-place-preserved c =
    let scene = c.args.scene in
    let h = frames_more scene.parts.now scene.joints.now scene.heads.now c.args.flows.now c.loop-place.place c.loop-place.frames c.flow_at.result c.loop-place.invariant c.loop-place-test.true c.flow_at.ensures in
    h

pub returns : goal.returns
returns c =
    let scene = c.args.scene in
    frames_all scene.parts.now scene.joints.now scene.heads.now c.args.flows.now c.loop-place.place c.loop-place.frames c.loop-place.invariant (omega arith)
