use Rattle.std.proofs.Common.{◌≡◌, take, arith}
use Rattle.play_forms.specs.Joints.{headers_of}
use Rattle.stream_plan.proofs.Sums.{too_many_at}
use Rattle.stream_plan.proofs.counting.check_headers.Goals as goal

pub returns-then-headers-gt-MOST_HEADERS-clause-many : goal.returns-then-headers-gt-MOST_HEADERS-clause-many
returns-then-headers-gt-MOST_HEADERS-clause-many c =
    let joints = c.args.joints.now in
    let k = c.loop-joint.joint-index in
    let sum : c.loop-joint.headers ≡ headers_of (take k joints) = c.loop-joint.invariant.sum in
    too_many_at joints k _ c.loop-joint-test.true (omega arith) (omega arith)
