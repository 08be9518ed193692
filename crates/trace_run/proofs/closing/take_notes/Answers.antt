use Rattle.il_graph.specs.Shown.{look_of}
use Rattle.trace_run.specs.Standing.{graph_kept}
use Rattle.trace_run.proofs.Emptying.{stay_on, stood_on, has_then}
use Rattle.trace_run.proofs.closing.take_notes.Goals as goal

pub take_next-requires : goal.take_next-requires
take_next-requires c = has_then (graph_kept c.args.graph.now) (graph_kept c.loop-h.graph) c.args.slots.now.items c.loop-h.slots.items c.loop-h.invariant.stood c.requires

pub loop-h-preserved : goal.loop-h-preserved
loop-h-preserved c = record {
  stood = stood_on (graph_kept c.args.graph.now) (graph_kept c.loop-h.graph) (graph_kept c.take_next.new.graph) c.args.slots.now.items c.loop-h.slots.items c.take_next.new.slots.items c.loop-h.invariant.stood c.take_next.ensures.stood;
  stay = stay_on (look_of c.args.graph.now) (look_of c.loop-h.graph) (look_of c.take_next.new.graph) c.loop-h.invariant.stay c.take_next.ensures.stay;
}

pub returns-clause-stood : goal.returns-clause-stood
returns-clause-stood c = stood_on (graph_kept c.args.graph.now) (graph_kept c.loop-h.graph) (graph_kept c.take_next.new.graph) c.args.slots.now.items c.loop-h.slots.items c.take_next.new.slots.items c.loop-h.invariant.stood c.take_next.ensures.stood

pub returns-clause-stay : goal.returns-clause-stay
returns-clause-stay c = stay_on (look_of c.args.graph.now) (look_of c.loop-h.graph) (look_of c.take_next.new.graph) c.loop-h.invariant.stay c.take_next.ensures.stay
