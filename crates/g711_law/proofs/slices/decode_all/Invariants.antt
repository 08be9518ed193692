use Rattle.std.proofs.Common.{length, take, map, ◌-◌, ◌*◌, ◌≡◌, ◌≤◌}
use Rattle.pcm_ops.specs.Samples.{bytes}
use Rattle.g711_law.proofs.slices.decode_all.Given as goal

abbrev pub invariant-loop-i : goal.invariant-loop-i
invariant-loop-i g l = record { within : l.i ≤ length l.from; two_each : length l.to ≡ 2 * length l.from; written : take (2 * l.i) l.to ≡ bytes (take l.i (map g.L.Compander.value l.from)) }

abbrev pub decreases-loop-i : goal.decreases-loop-i
decreases-loop-i g l = length l.from - l.i

abbrev pub invariant-loop-i-2 : goal.invariant-loop-i-2
invariant-loop-i-2 g l = record { within : l.i ≤ length l.from; two_each : length l.to ≡ 2 * length l.from; written : take (2 * l.i) l.to ≡ bytes (take l.i (map g.L.Compander.value l.from)) }

abbrev pub decreases-loop-i-2 : goal.decreases-loop-i-2
decreases-loop-i-2 g l = length l.from - l.i
