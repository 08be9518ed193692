use Rattle.std.proofs.Common.{sym, subst}
use Rattle.il_machine.specs.declared.answer.Progress.{Progress}
use Rattle.graph_core.specs.Clients.{IsPortDone}
use Rattle.il_graph.proofs.PortsDone.{done_moved}
use Rattle.steps_bench.proofs.client.told_of.Goals as goal

pub returns-in-Told : goal.returns-in-Told
returns-in-Told c = subst (λ (p : Progress). IsPortDone p.port) (sym c.hear.ensures) (done_moved c.in-Told.event c.args.client c.requires)
