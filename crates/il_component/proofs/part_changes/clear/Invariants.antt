use Rattle.std.proofs.Common.{◌≡◌}
use Rattle.il_component.proofs.Each.{each_until}
use Rattle.il_component.proofs.Ports.{clear_flag}
use Rattle.il_component.proofs.part_changes.clear.Given as goal

abbrev pub invariant-loop-flag : goal.invariant-loop-flag
invariant-loop-flag l = l.flags ≡ each_until clear_flag l.flag-index 0 l.fn.flags
