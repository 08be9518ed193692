use Rattle.std.proofs.Common.{arith, refl}
use Rattle.graph_core.proofs.Beginning.{empty_graph}
use Rattle.graph_core.proofs.Marking.{marked_none}
use Rattle.graph_core.proofs.core_graph.Core.new.Goals as goal

pub invariant_of-result : goal.invariant_of-result
invariant_of-result g c =
    let cap = c.in-Ok.ensures.capacity in (
      rw (c.in-Ok.ensures.items, c.new-2.ensures, c.new-3.ensures) (empty_graph g.C.Client.progress c.in_ok-stock.stock c.args.units _ c.in_ok-stock.ensures (omega arith)),
      rw c.in-Ok.ensures.items (marked_none c.empty.result c.empty.ensures),
      rw (c.in-Ok.ensures.items, c.new-3.ensures) refl,
    )
