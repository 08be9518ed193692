use Rattle.std.proofs.Common.{subst}
use Rattle.trace_run.specs.Standing.{graph_kept}
use Rattle.trace_run.specs.Closing.{CanFree}
use Rattle.trace_run.proofs.Freeing.{freeable, freed_last}
use Rattle.trace_run.proofs.closing.free_slots.Goals as goal

pub free_slot-requires : goal.free_slot-requires
free_slot-requires c = freeable (graph_kept c.loop-slot.graph) c.pop.new.self.items c.loop-slot.rest.items c.in-Some.slot c.in-Some.ensures.items c.loop-slot.invariant

pub loop-slot-preserved : goal.loop-slot-preserved
loop-slot-preserved c =
    let old = graph_kept c.loop-slot.graph in
    let front = c.pop.new.self.items in
    freed_last old (graph_kept c.free_slot.new.graph) front c.in-Some.slot (subst (CanFree old) c.in-Some.ensures.items c.loop-slot.invariant) c.free_slot.ensures
