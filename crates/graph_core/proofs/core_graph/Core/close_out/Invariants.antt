use Rattle.stock_laws.specs.Bare.{StepsBare}
use Rattle.machine_laws.specs.Pending.{pending_in}
use Rattle.stock_laws.proofs.Closing.{Happening}
use Rattle.graph_core.specs.Clients.{KeepsAllClients}
use Rattle.graph_core.specs.Entries.{components_of, kept}
use Rattle.graph_core.proofs.core_graph.Core.close_out.Given as goal

abbrev pub invariant-loop-place : goal.invariant-loop-place
invariant-loop-place g l = StepsBare (kept g.C.Client.progress l.fn.self) (kept g.C.Client.progress l.self) Happening × KeepsAllClients l.fn.self l.self

abbrev pub decreases-loop-place : goal.decreases-loop-place
decreases-loop-place g l = pending_in (components_of l.self.entries)
