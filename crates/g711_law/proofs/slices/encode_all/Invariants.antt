use Rattle.std.proofs.Common.{length, take, map, ◌-◌, ◌*◌, ◌≡◌, ◌≤◌}
use Rattle.pcm_ops.specs.Samples.{samples}
use Rattle.g711_law.proofs.slices.encode_all.Given as goal

abbrev pub invariant-loop-to : goal.invariant-loop-to
invariant-loop-to g l = record { within : l.i ≤ length l.to; two_each : length l.from ≡ 2 * length l.to; written : take l.i l.to ≡ map g.L.Compander.code (take l.i (samples l.from)) }

abbrev pub decreases-loop-to : goal.decreases-loop-to
decreases-loop-to g l = length l.to - l.i

abbrev pub invariant-loop-i : goal.invariant-loop-i
invariant-loop-i g l = record { within : l.i ≤ length l.to; two_each : length l.from ≡ 2 * length l.to; written : take l.i l.to ≡ map g.L.Compander.code (take l.i (samples l.from)) }

abbrev pub decreases-loop-i : goal.decreases-loop-i
decreases-loop-i g l = length l.to - l.i
