use Rattle.std.proofs.Common.{ℕ, List, ◌∙◌, ap, not, is_some}
use Rattle.il_machine.specs.Lists.{is_empty}
use Rattle.port_stock.specs.Blocks.{blocks_out, key_of}
use Rattle.port_stock.specs.Kept.{unmarked_of}
use Rattle.port_stock.specs.Entries.{headers_of}
use Rattle.port_stock.specs.declared.port.Port.{Port}
use Rattle.port_stock.proofs.Looking.{some_front}
use Rattle.port_stock.proofs.Turning.{unmarked_is, port_there}
use Rattle.port_stock.proofs.stock.Stock.has_unmarked.Goals as goal

pub at-requires-clause-there : goal.at-requires-clause-there
at-requires-clause-there c = rw c.deref.ensures.value (port_there (key_of c.self.inside.region) c.self.inside.ports.items c.self.inside.entries.items (blocks_out c.self.inside.region) c.self.inside.next _ c.self.invariant.0 c.args.port (rw c.self.view_is c.requires))

pub at-requires-clause-differ : goal.at-requires-clause-differ
at-requires-clause-differ c = rw c.deref.ensures.value c.self.invariant.0.differ

pub first_unmarked-requires : goal.first_unmarked-requires
first_unmarked-requires c = rw c.deref-2.ensures.value c.self.invariant.0.once

pub returns : goal.returns
returns c =
    let p = ap (λ (p : Port). p.todo.items) (rw c.deref.ensures.value at c.at.ensures) in
    let e = ap (unmarked_of (headers_of c.self.inside.entries.items)) p ∙ unmarked_is (key_of c.self.inside.region) c.self.inside.ports.items c.self.inside.entries.items (blocks_out c.self.inside.region) c.self.inside.next _ c.self.invariant.0 c.args.port in
    let f = rw c.deref-2.ensures.value at c.first_unmarked.ensures in
    rw (← c.self.view_is) (c.is_some.ensures ∙ (ap is_some f ∙ (some_front _ ∙ ap (λ (ns : List ℕ). not (is_empty ns)) e)))
