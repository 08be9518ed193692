use Rattle.il_graph.proofs.Beginning.{begins}
use Rattle.il_graph.proofs.graph.Graph.new.Goals as goal

pub invariant_of-result : goal.invariant_of-result
invariant_of-result g c = (c.in_ok-parts.ensures.capacity, rw c.in_ok-parts.ensures.items (begins g.C.Client.progress c.in-Ok.core c.in-Ok.ensures.0 c.law_of_worlds.ensures.one))
