use Rattle.std.proofs.Common.{vec_capacity}
use Rattle.port_stock.proofs.Ending.{all_end}
use Rattle.port_stock.proofs.stock.Stock.close.Goals as goal

pub end_all-requires : goal.end_all-requires
end_all-requires c =
    let i = c.self.inside in
    all_end i.region i.ports.items i.entries.items i.next (vec_capacity i.entries) c.self.invariant.0 c.self.invariant.1 (rw c.self.view_is c.requires)
