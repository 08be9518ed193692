use Rattle.std.proofs.Common.{Some}
use Rattle.trace_run.specs.Standing.{parts, graph_kept}
use Rattle.trace_run.proofs.Handed.{hand_empty, same_back, may_be_handed, not_filled}
use Rattle.trace_run.proofs.HandedIn.{filled_up, fill_refused}
use Rattle.trace_run.proofs.headers.fill.Goals as goal

pub returns-in_default : goal.returns-in_default
returns-in_default c =
    let old = parts c.args.graph.now c.args.components.now c.args.slots.now.items in
    not_filled old c.args.name.now c.args.port.now c.take_named.new.slots.items c.in_default.ensures.unchanged c.in_default.ensures.none

pub put_hand-requires-clause-empty : goal.put_hand-requires-clause-empty
put_hand-requires-clause-empty c =
    hand_empty c.args.slots.now.items c.args.name.now c.in-Some.place (Some c.in-Some.header) c.take_named.new.slots.items c.in-Some.ensures.taken

pub fill_this_buffer-requires : goal.fill_this_buffer-requires
fill_this_buffer-requires c =
    let old = parts c.args.graph.now c.args.components.now c.args.slots.now.items in
    let T = c.in-Some.ensures.taken in
    record { handed = may_be_handed old c.args.name.now c.in-Some.place c.in-Some.header c.take_named.new.slots.items T c.requires }

pub returns-in-Ok : goal.returns-in-Ok
returns-in-Ok c =
    let old = parts c.args.graph.now c.args.components.now c.args.slots.now.items in
    let T = c.in-Some.ensures.taken in
    filled_up old (graph_kept c.fill_this_buffer.new.self) c.args.name.now c.in-Some.place c.in-Some.header c.take_named.new.slots.items T c.requires c.args.port.now c.port_id-port.result c.port_id-port.ensures c.size-size.ensures.sized.content c.in-Ok.ensures.step

pub returns-in-Err : goal.returns-in-Err
returns-in-Err c =
    let old = parts c.args.graph.now c.args.components.now c.args.slots.now.items in
    let T = c.in-Some.ensures.taken in
    fill_refused old (graph_kept c.fill_this_buffer.new.self) c.args.name.now c.in-Some.place c.in-Some.header c.take_named.new.slots.items T c.requires c.args.port.now c.port_id-port.result c.port_id-port.ensures c.size-size.ensures.sized.content c.in-Err.error c.put_hand.new.slots.items (same_back c.in-Some.place c.in-Err.header c.in-Some.header c.take_named.new.slots.items c.put_hand.new.slots.items c.in-Err.ensures.handed_back c.put_hand.ensures) c.in-Err.ensures.step
