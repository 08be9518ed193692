use Rattle.stream_plan.proofs.Frames.{AreSoFar}
use Rattle.stream_plan.proofs.flowing.set_frames.Given as goal

abbrev pub invariant-loop-place : goal.invariant-loop-place
invariant-loop-place l = AreSoFar l.scene.parts.now l.scene.joints.now l.scene.heads.now l.flows l.place l.frames
