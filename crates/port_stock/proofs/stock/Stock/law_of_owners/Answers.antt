use Rattle.port_stock.specs.Blocks.{blocks_out, key_of}
use Rattle.port_stock.proofs.Turning.{owners_are}
use Rattle.port_stock.proofs.stock.Stock.law_of_owners.Goals as goal

pub returns : goal.returns
returns c = rw (← c.self.view_is) (owners_are (key_of c.self.inside.region) c.self.inside.ports.items c.self.inside.entries.items (blocks_out c.self.inside.region) c.self.inside.next _ c.self.invariant.0)
