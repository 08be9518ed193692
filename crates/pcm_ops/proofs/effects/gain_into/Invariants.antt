use Rattle.std.proofs.Common.{length, take, map, ◌-◌, ◌*◌, ◌≡◌, ◌≤◌}
use Rattle.pcm_ops.specs.Samples.{samples, bytes, gained}
use Rattle.pcm_ops.proofs.effects.gain_into.Given as goal

abbrev pub invariant-loop-i : goal.invariant-loop-i
invariant-loop-i l = record { within : l.i ≤ l.count; from : length l.from ≡ 2 * l.count; to : length l.to ≡ 2 * l.count; written : take (2 * l.i) l.to ≡ bytes (take l.i (map (gained l.gain) (samples l.from))) }

abbrev pub decreases-loop-i : goal.decreases-loop-i
decreases-loop-i l = l.count - l.i

abbrev pub invariant-loop-i-2 : goal.invariant-loop-i-2
invariant-loop-i-2 l = record { within : l.i ≤ l.count; from : length l.from ≡ 2 * l.count; to : length l.to ≡ 2 * l.count; written : take (2 * l.i) l.to ≡ bytes (take l.i (map (gained l.gain) (samples l.from))) }

abbrev pub decreases-loop-i-2 : goal.decreases-loop-i-2
decreases-loop-i-2 l = l.count - l.i
