use Rattle.std.proofs.Common.{Some}
use Rattle.std.specs.Prelude.{is_some}
use Rattle.trace_run.specs.Standing.{parts, graph_kept}
use Rattle.trace_run.proofs.Handed.{hand_empty, same_back, may_be_handed, not_freed}
use Rattle.trace_run.proofs.HandedIn.{freed, free_refused}
use Rattle.trace_run.proofs.headers.free.Goals as goal

pub returns-in_default : goal.returns-in_default
returns-in_default c =
    let old = parts c.args.graph.now c.args.components.now c.args.slots.now.items in
    not_freed old c.args.name.now c.args.port.now c.take_named.new.slots.items c.in_default.ensures.unchanged c.in_default.ensures.none

pub put_hand-requires-clause-empty : goal.put_hand-requires-clause-empty
put_hand-requires-clause-empty c =
    hand_empty c.args.slots.now.items c.args.name.now c.in-Some.place (Some c.in-Some.header) c.take_named.new.slots.items c.in-Some.ensures.taken

pub free_buffer-requires : goal.free_buffer-requires
free_buffer-requires c =
    let old = parts c.args.graph.now c.args.components.now c.args.slots.now.items in
    let T = c.in-Some.ensures.taken in
    record { handed = may_be_handed old c.args.name.now c.in-Some.place c.in-Some.header c.take_named.new.slots.items T c.requires }

pub returns-in-Ok : goal.returns-in-Ok
returns-in-Ok c =
    let old = parts c.args.graph.now c.args.components.now c.args.slots.now.items in
    let T = c.in-Some.ensures.taken in
    freed old (graph_kept c.free_buffer.new.self) c.args.name.now c.in-Some.place c.in-Some.header c.take_named.new.slots.items T c.requires c.args.port.now c.port_id-port.result c.port_id-port.ensures (is_some c.in-Ok._memory) c.in-Ok.ensures.step

pub returns-in-Err : goal.returns-in-Err
returns-in-Err c =
    let old = parts c.args.graph.now c.args.components.now c.args.slots.now.items in
    let T = c.in-Some.ensures.taken in
    free_refused old (graph_kept c.free_buffer.new.self) c.args.name.now c.in-Some.place c.in-Some.header c.take_named.new.slots.items T c.requires c.args.port.now c.port_id-port.result c.port_id-port.ensures c.in-Err.error c.put_hand.new.slots.items (same_back c.in-Some.place c.in-Err.header c.in-Some.header c.take_named.new.slots.items c.put_hand.new.slots.items c.in-Err.ensures.handed_back c.put_hand.ensures) c.in-Err.ensures.step
