use Rattle.std.proofs.Common.{ℕ, List, ◌∙◌, ap, not}
use Rattle.il_machine.specs.Lists.{is_empty}
use Rattle.port_stock.specs.Blocks.{blocks_out, key_of}
use Rattle.port_stock.specs.declared.port.Port.{Port}
use Rattle.port_stock.proofs.Looking.{not_empty}
use Rattle.port_stock.proofs.Turning.{todo_is, port_there}
use Rattle.port_stock.proofs.stock.Stock.has_todo.Goals as goal

pub at-requires-clause-there : goal.at-requires-clause-there
at-requires-clause-there c = rw c.deref.ensures.value (port_there (key_of c.self.inside.region) c.self.inside.ports.items c.self.inside.entries.items (blocks_out c.self.inside.region) c.self.inside.next _ c.self.invariant.0 c.args.port (rw c.self.view_is c.requires))

pub at-requires-clause-differ : goal.at-requires-clause-differ
at-requires-clause-differ c = rw c.deref.ensures.value c.self.invariant.0.differ

pub returns : goal.returns
returns c =
    let e = ap (λ (p : Port). p.todo.items) (rw c.deref.ensures.value at c.at.ensures) ∙ todo_is (key_of c.self.inside.region) c.self.inside.ports.items c.self.inside.entries.items (blocks_out c.self.inside.region) c.self.inside.next _ c.self.invariant.0 c.args.port in
    rw (← c.self.view_is) (ap not c.is_empty.ensures ∙ (not_empty c.at.result.now.todo.items ∙ ap (λ (ns : List ℕ). not (is_empty ns)) e))
