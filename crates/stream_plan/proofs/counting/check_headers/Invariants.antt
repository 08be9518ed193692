use Rattle.std.proofs.Common.{◌≡◌, ◌≤◌, take}
use Rattle.play_forms.specs.Joints.{headers_of}
use Rattle.stream_plan.proofs.counting.check_headers.Given as goal

abbrev pub invariant-loop-joint : goal.invariant-loop-joint
invariant-loop-joint l = record { sum : l.headers ≡ headers_of (take l.joint-index l.joints); few : l.headers ≤ 1024 }
