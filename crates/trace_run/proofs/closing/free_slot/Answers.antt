use Rattle.std.proofs.Common.{is_some}
use Rattle.trace_run.specs.Standing.{graph_kept}
use Rattle.trace_run.proofs.Freeing.{freed_so, freed_always}
use Rattle.trace_run.proofs.closing.free_slot.Goals as goal

pub unreachable-requires : goal.unreachable-requires
unreachable-requires c =
    let old = graph_kept c.args.graph.now in
    let W = c.law_of_worlds.ensures.one in
    let x = c.in-Err.ensures.step W.world W.stands in
    freed_always old (graph_kept c.free_buffer.new.self) c.args.slot c.in-Some.header c.in-Some.is c.requires W.world W.stands c.in-Err._error x.0 x.2

pub returns : goal.returns
returns c = freed_so (graph_kept c.args.graph.now) (graph_kept c.free_buffer.new.self) c.args.slot c.in-Some.header c.in-Some.is (is_some c.in-Ok._memory) c.in-Ok.ensures.step
