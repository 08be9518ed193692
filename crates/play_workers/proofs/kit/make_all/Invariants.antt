use Rattle.std.proofs.Common.{◌≤◌, ◌-◌, All, length, vec_capacity}
use Rattle.play_workers.specs.Rooms.{IsNewKit}
use Rattle.play_workers.proofs.kit.make_all.Given as goal

abbrev pub invariant-loop-alloc : goal.invariant-loop-alloc
invariant-loop-alloc g l = All IsNewKit l.kits.items × (length l.kits.items ≤ l.count) × (l.count ≤ vec_capacity l.kits)

abbrev pub decreases-loop-alloc : goal.decreases-loop-alloc
decreases-loop-alloc g l = l.count - length l.kits.items
