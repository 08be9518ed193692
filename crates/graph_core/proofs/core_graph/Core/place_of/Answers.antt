use Rattle.std.proofs.Common.{◌∙◌}
use Rattle.graph_core.proofs.Registering.{place_is, all_within}
use Rattle.graph_core.proofs.core_graph.Core.place_of.Goals as goal

pub returns-clause-place : goal.returns-clause-place
returns-clause-place g c = c.lookup.ensures ∙ rw (← c.self.view_is) (place_is c.self.inside.components.items c.self.inside.registry c.args.h c.self.invariant.0.registered)

pub returns-clause-within : goal.returns-clause-within
returns-clause-within g c =
    let e = c.lookup.ensures ∙ place_is c.self.inside.components.items c.self.inside.registry c.args.h c.self.invariant.0.registered in
    rw (← c.self.view_is) (all_within c.self.inside.components.items c.args.h c.lookup.result e)
