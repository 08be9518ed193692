use Rattle.std.proofs.Common.{vec_capacity}
use Rattle.stock_laws.specs.Changes.{todo_cleared}
use Rattle.port_stock.specs.Blocks.{blocks_out, key_of}
use Rattle.port_stock.proofs.Turning.{Turns, clear_todo_turns, old}
use Rattle.port_stock.specs.Kept.{stocked}
use Rattle.port_stock.proofs.stock.Stock.clear_todo.Goals as goal

turns : (c : goal.After-clear_todo) → Turns (key_of c.self.inside.region) c.self.inside.ports.items c.clear_todo.new.entries.items (blocks_out c.self.inside.region) c.self.inside.next (vec_capacity c.clear_todo.new.entries) (todo_cleared c.args.port (stocked (old (key_of c.self.inside.region) c.self.inside.ports.items c.self.inside.entries.items (blocks_out c.self.inside.region) c.self.inside.next _ c.self.invariant.0)))
turns c = clear_todo_turns (key_of c.self.inside.region) c.self.inside.ports.items c.self.inside.entries.items (blocks_out c.self.inside.region) c.self.inside.next _ c.self.invariant.0 c.clear_todo.new.entries.items _ c.args.port c.clear_todo.ensures.headers c.clear_todo.ensures.kept (c.clear_todo.ensures.keys (key_of c.self.inside.region) c.self.invariant.0.keys) c.clear_todo.ensures.capacity

pub invariant_of-self : goal.invariant_of-self
invariant_of-self c = ((turns c).lawful, c.self.invariant.1)

pub returns : goal.returns
returns c = rw (← c.self.view_is) (turns c).is
