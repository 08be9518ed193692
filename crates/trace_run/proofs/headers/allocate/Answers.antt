use Rattle.trace_run.specs.Standing.{parts, graph_kept}
use Rattle.trace_run.proofs.HandedOut.{allocated, not_allocated, more_slots}
use Rattle.trace_run.proofs.headers.allocate.Goals as goal

pub returns-in-Ok-clause-leads : goal.returns-in-Ok-clause-leads
returns-in-Ok-clause-leads c =
    allocated (parts c.args.graph.now c.args.components.now c.args.slots.now.items) (graph_kept c.allocate_buffer.new.self) c.args.name.now c.args.port.now c.port_id-port.result c.port_id-port.ensures c.push_reserved.new.self.items c.in-Ok.header
    (more_slots c.args.slots.now.items c.reserve.new.self.items c.push_reserved.new.self.items c.new_slot.result _ c.push_reserved.ensures.items c.in_ok-reserve.ensures.items c.new_slot.ensures)
    c.in-Ok.ensures.handed.handed c.in-Ok.ensures.step

pub returns-in-Err-Omx-clause-leads : goal.returns-in-Err-Omx-clause-leads
returns-in-Err-Omx-clause-leads c =
    not_allocated (parts c.args.graph.now c.args.components.now c.args.slots.now.items) (graph_kept c.allocate_buffer.new.self) c.args.name.now c.args.port.now c.port_id-port.result c.port_id-port.ensures c.reserve.new.self.items c.in-Err-Omx.error _ c.in-Err-Omx.field-0 c.in-Err-Omx.error-is c.in-Err-Omx.field-0-is
    c.in_ok-reserve.ensures.items c.in-Err-Omx.ensures.step
