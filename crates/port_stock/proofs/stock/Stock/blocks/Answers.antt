use Rattle.std.proofs.Common.{ℕ, ◌-◌, ◌∙◌, ap}
use Rattle.port_stock.specs.Blocks.{blocks_out, key_of}
use Rattle.port_stock.proofs.Turning.{blocks_is}
use Rattle.port_stock.proofs.stock.Stock.blocks.Goals as goal

pub returns : goal.returns
returns c = rw (← c.self.view_is) (c.from.ensures ∙ (ap (λ (n : ℕ). 1024 - n) c.free.ensures.free ∙ blocks_is (key_of c.self.inside.region) c.self.inside.ports.items c.self.inside.entries.items (blocks_out c.self.inside.region) c.self.inside.next _ c.self.invariant.0))
