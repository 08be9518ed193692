use Rattle.std.proofs.Common.{All}
use Rattle.play_workers.specs.Rooms.{IsNewKit}
use Rattle.play_workers.proofs.kit.end_all.Given as goal

abbrev pub invariant-loop-kit : goal.invariant-loop-kit
invariant-loop-kit g l = All IsNewKit l.kits.items

abbrev pub decreases-loop-kit : goal.decreases-loop-kit
decreases-loop-kit g l = goal.left-loop-kit g l
