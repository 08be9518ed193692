use Rattle.std.proofs.Common.{rules}
use Rattle.port_stock.specs.Kept.{stocked}
use Rattle.graph_core.proofs.Picked.{ports_rest, where_ports}
use Rattle.graph_core.proofs.picking.+pick_ports.Goals as goal

pub pick_ports-requires : goal.pick_ports-requires
pick_ports-requires t c =
    let rest = ports_rest c.args.component c.args.port c.args.gives.now (stocked c.args.stock.now) c.in-len1-up.len_at_least c.requires.there in
    (search rules, (search rules, (search rules, (search rules, rw c.pick_where.ensures.stock (where_ports _ _ _ _ _ _ rest)))))
