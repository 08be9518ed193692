use Rattle.il_machine.specs.Headers.{in_todo}
use Rattle.port_stock.specs.Entries.{entry_cleared}
use Rattle.port_stock.proofs.Looking.{loop_step}
use Rattle.port_stock.proofs.entries.clear_todo_entries.Goals as goal

pub loop-entry-preserved : goal.loop-entry-preserved
loop-entry-preserved c =
    loop_step (λ e. entry_cleared (in_todo c.args.key e.state) e) c.args.entries.now c.loop-entry.entries c.loop-entry.entry-index c.entry-item.result c.clear_todo_entry.new.entry
    c.loop-entry-test.true c.loop-entry.invariant c.clear_todo_entry.ensures c.entry-item.is
