use Rattle.std.proofs.Common.{sym, subst}
use Rattle.il_machine.specs.declared.answer.Progress.{Progress}
use Rattle.graph_core.specs.Clients.{IsPortDone}
use Rattle.il_graph.proofs.PortsDone.{done_noted}
use Rattle.trace_run.specs.Standing.{machine_note}
use Rattle.trace_run.proofs.notes.end.Goals as goal

pub end_note-requires-clause-told : goal.end_note-requires-clause-told
end_note-requires-clause-told c = subst (λ (p : Progress). IsPortDone p.port) (sym c.told_of-client.ensures) (done_noted (machine_note c.args.call.taken) c.args.call.client c.requires.told)
