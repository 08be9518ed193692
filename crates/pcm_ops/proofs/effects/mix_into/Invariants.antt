use Rattle.std.proofs.Common.{length, ◌-◌, ◌*◌, ◌≡◌, ◌≤◌}
use Rattle.pcm_ops.specs.Samples.{samples}
use Rattle.pcm_ops.proofs.Mixing.{IsMixedTo}
use Rattle.pcm_ops.proofs.effects.mix_into.Given as goal

abbrev pub invariant-loop-sum : goal.invariant-loop-sum
invariant-loop-sum l = record { within : l.i ≤ length l.sum; two_each : length l.from ≡ 2 * length l.sum; so_far : IsMixedTo l.weight l.i l.fn.sum (samples l.from) l.sum }

abbrev pub decreases-loop-sum : goal.decreases-loop-sum
decreases-loop-sum l = length l.sum - l.i

abbrev pub invariant-loop-i : goal.invariant-loop-i
invariant-loop-i l = record { within : l.i ≤ length l.sum; two_each : length l.from ≡ 2 * length l.sum; so_far : IsMixedTo l.weight l.i l.fn.sum (samples l.from) l.sum }

abbrev pub decreases-loop-i : goal.decreases-loop-i
decreases-loop-i l = length l.sum - l.i
