use Rattle.std.proofs.Common.{◌≡◌, ◌++◌, map, take, drop}
use Rattle.il_machine.specs.Headers.{in_done}
use Rattle.port_stock.specs.Entries.{entry_cleared}
use Rattle.port_stock.proofs.entries.clear_done_entries.Given as goal

abbrev pub invariant-loop-entry : goal.invariant-loop-entry
invariant-loop-entry l = l.entries ≡ map (λ e. entry_cleared (in_done l.key e.state) e) (take l.entry-index l.initial.entries) ++ drop l.entry-index l.initial.entries
