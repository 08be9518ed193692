use Rattle.std.proofs.Common.{◌≡◌, ℕ, ◌<◌, true}
use Rattle.play_forms.specs.Joints.{is_linked}
use Rattle.stream_plan.proofs.joining.open_port.Given as goal

abbrev pub invariant-loop-port : goal.invariant-loop-port
invariant-loop-port l = (k : ℕ) → k < l.port → is_linked l.joints l.place k ≡ true
