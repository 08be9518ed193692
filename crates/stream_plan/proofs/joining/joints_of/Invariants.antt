use Rattle.std.proofs.Common.{◌≡◌, take}
use Rattle.play_forms.specs.Joints.{AllJoin, joints_of}
use Rattle.stream_plan.proofs.joining.joints_of.Given as goal

abbrev pub invariant-loop-link : goal.invariant-loop-link
invariant-loop-link l = record { these : l.joints.items ≡ joints_of l.parts (take l.link-index l.links); joined : AllJoin l.parts l.joints.items }
