use Rattle.std.proofs.Common.{sym, ◌∙◌}
use Rattle.trace_run.specs.Standing.{graph_kept}
use Rattle.trace_run.proofs.Emptying.{took_so, took_stood}
use Rattle.trace_run.proofs.closing.take_next.Goals as goal

pub returns-clause-stood : goal.returns-clause-stood
returns-clause-stood c = took_stood (graph_kept c.args.graph.now) (graph_kept c.take.new.graph) c.args.slots.now.items c.take.new.slots.items c.args.h c.take.result c.requires c.take.ensures

pub returns-clause-stay : goal.returns-clause-stay
returns-clause-stay c = (took_so (graph_kept c.args.graph.now) (graph_kept c.take.new.graph) c.args.slots.now.items c.take.new.slots.items c.args.h c.take.result c.requires c.take.ensures).stay

pub returns-clause-fewer : goal.returns-clause-fewer
returns-clause-fewer c t = (took_so (graph_kept c.args.graph.now) (graph_kept c.take.new.graph) c.args.slots.now.items c.take.new.slots.items c.args.h c.take.result c.requires c.take.ensures).fewer (sym c.is_note.ensures ∙ t)

pub returns-clause-none : goal.returns-clause-none
returns-clause-none c f = (took_so (graph_kept c.args.graph.now) (graph_kept c.take.new.graph) c.args.slots.now.items c.take.new.slots.items c.args.h c.take.result c.requires c.take.ensures).none (sym c.is_note.ensures ∙ f)
