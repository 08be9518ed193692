use Rattle.std.proofs.Common.{◌∙◌, ap}
use Rattle.port_stock.specs.Blocks.{blocks_out, key_of}
use Rattle.port_stock.specs.declared.port.Port.{Port}
use Rattle.port_stock.proofs.Turning.{foreign_is, port_there}
use Rattle.port_stock.proofs.stock.Stock.foreign.Goals as goal

pub at-requires-clause-there : goal.at-requires-clause-there
at-requires-clause-there c = rw c.deref.ensures.value (port_there (key_of c.self.inside.region) c.self.inside.ports.items c.self.inside.entries.items (blocks_out c.self.inside.region) c.self.inside.next _ c.self.invariant.0 c.args.port (rw c.self.view_is c.requires))

pub at-requires-clause-differ : goal.at-requires-clause-differ
at-requires-clause-differ c = rw c.deref.ensures.value c.self.invariant.0.differ

pub returns : goal.returns
returns c = rw (← c.self.view_is) (ap (λ (p : Port). p.foreign) (rw c.deref.ensures.value at c.at.ensures) ∙ foreign_is (key_of c.self.inside.region) c.self.inside.ports.items c.self.inside.entries.items (blocks_out c.self.inside.region) c.self.inside.next _ c.self.invariant.0 c.args.port)
