use Rattle.std.proofs.Common.{◌∙◌}
use Rattle.port_stock.specs.Blocks.{key_of}
use Rattle.port_stock.specs.Entries.{headers_of}
use Rattle.port_stock.proofs.Reading.{header_shown, view}
use Rattle.port_stock.proofs.stock.Stock.state.Goals as goal

pub state_of-requires : goal.state_of-requires
state_of-requires c = rw c.deref.ensures.value c.self.invariant.0.once

pub returns : goal.returns
returns c = rw (← c.self.view_is) ((rw c.deref.ensures.value at c.state_of.ensures) ∙ header_shown (view (key_of c.self.inside.region) c.self.inside.ports.items (headers_of c.self.inside.entries.items) c.self.inside.next) c.args.id)
