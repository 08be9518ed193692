use Rattle.std.proofs.Common.{length, take, map, ◌-◌, ◌*◌, ◌≡◌, ◌≤◌}
use Rattle.pcm_ops.specs.Samples.{bytes, clamped}
use Rattle.pcm_ops.proofs.effects.clamp_into.Given as goal

abbrev pub invariant-loop-i : goal.invariant-loop-i
invariant-loop-i l = record { within : l.i ≤ length l.sum; two_each : length l.to ≡ 2 * length l.sum; written : take (2 * l.i) l.to ≡ bytes (take l.i (map clamped l.sum)) }

abbrev pub decreases-loop-i : goal.decreases-loop-i
decreases-loop-i l = length l.sum - l.i

abbrev pub invariant-loop-i-2 : goal.invariant-loop-i-2
invariant-loop-i-2 l = record { within : l.i ≤ length l.sum; two_each : length l.to ≡ 2 * length l.sum; written : take (2 * l.i) l.to ≡ bytes (take l.i (map clamped l.sum)) }

abbrev pub decreases-loop-i-2 : goal.decreases-loop-i-2
decreases-loop-i-2 l = length l.sum - l.i
