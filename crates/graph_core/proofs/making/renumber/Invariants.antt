use Rattle.std.proofs.Common.{◌≡◌}
use Rattle.registry.specs.Handles.{live, AllGiven}
use Rattle.graph_core.specs.Registered.{Shifted}
use Rattle.graph_core.proofs.making.renumber.Given as goal

abbrev pub invariant-loop-place : goal.invariant-loop-place
invariant-loop-place g l = record {
  shifted : Shifted l.place l.components l.registry;
  given : AllGiven l.registry;
  numbered : l.registry.given ≡ l.initial.registry.given;
  live : live l.registry ≡ live l.initial.registry;
}
