use Rattle.trace_run.specs.Standing.{parts, graph_kept}
use Rattle.trace_run.proofs.HandedOut.{used, not_used, more_slots}
use Rattle.trace_run.proofs.headers.use_bytes.Goals as goal

pub returns-in-Ok-clause-leads : goal.returns-in-Ok-clause-leads
returns-in-Ok-clause-leads c =
    used (parts c.args.graph.now c.args.components.now c.args.slots.now.items) (graph_kept c.use_buffer.new.self) c.args.name.now c.args.port.now c.port_id-port.result c.port_id-port.ensures c.push_reserved.new.self.items c.in-Ok.header c.args.length c.in_ok-bytes.bytes.items
    (c.in_ok-bytes.ensures.items_if_clones_equal (λ y same. same))
    (more_slots c.args.slots.now.items c.reserve.new.self.items c.push_reserved.new.self.items c.new_slot.result _ c.push_reserved.ensures.items c.in_ok-reserve.ensures.items c.new_slot.ensures)
    c.in-Ok.ensures.handed.handed c.in-Ok.ensures.step

pub returns-in-Err-clause-leads : goal.returns-in-Err-clause-leads
returns-in-Err-clause-leads c =
    not_used (parts c.args.graph.now c.args.components.now c.args.slots.now.items) (graph_kept c.use_buffer.new.self) c.args.name.now c.args.port.now c.port_id-port.result c.port_id-port.ensures c.reserve.new.self.items c.in-Err.error c.args.length c.in_ok-bytes.bytes.items
    (c.in_ok-bytes.ensures.items_if_clones_equal (λ y same. same))
    c.in_ok-reserve.ensures.items c.in-Err.ensures.step
