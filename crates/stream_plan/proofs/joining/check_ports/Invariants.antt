use Rattle.std.proofs.Common.{take}
use Rattle.play_forms.specs.Joints.{AllLinked}
use Rattle.stream_plan.proofs.joining.check_ports.Given as goal

abbrev pub invariant-loop-place : goal.invariant-loop-place
invariant-loop-place l = AllLinked (take l.place l.parts) l.joints
