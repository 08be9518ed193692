use Rattle.std.proofs.Common.{Some}
use Rattle.trace_run.specs.Standing.{parts, graph_kept}
use Rattle.trace_run.proofs.Handed.{hand_empty, same_back, put_back_same, not_emptied}
use Rattle.trace_run.proofs.HandedIn.{emptied, empty_refused, given_handed, was_too_long, too_long, fits_in, filled_by}
use Rattle.trace_run.proofs.headers.empty.Goals as goal

pub returns-in_default : goal.returns-in_default
returns-in_default c =
    let old = parts c.args.graph.now c.args.components.now c.args.slots.now.items in
    not_emptied old c.args.name.now c.args.port.now c.args.bytes.now c.args.eos c.take_named.new.slots.items c.in_default.ensures.unchanged c.in_default.ensures.none

pub returns-in_default-fill : goal.returns-in_default-fill
returns-in_default-fill c =
    let old = parts c.args.graph.now c.args.components.now c.args.slots.now.items in
    let T = c.in-Some.ensures.taken in
    was_too_long old (graph_kept c.args.graph.now) c.args.name.now c.in-Some.place c.in-Some.header c.take_named.new.slots.items T c.requires c.args.port.now c.port_id-port.result c.port_id-port.ensures c.args.bytes.now c.args.eos c.put_hand.new.slots.items
    (put_back_same old.slots c.args.name.now c.in-Some.place (Some c.in-Some.header) c.take_named.new.slots.items T c.put_hand.new.slots.items
    (same_back c.in-Some.place c.fill.new.self c.in-Some.header c.take_named.new.slots.items c.put_hand.new.slots.items c.in_default-fill.ensures.unchanged c.put_hand.ensures))
    (too_long c.args.bytes.now c.in-Some.header.held.size (λ l. let e = c.in_default-fill.ensures.fits l in cc))

pub put_hand-requires-clause-empty : goal.put_hand-requires-clause-empty
put_hand-requires-clause-empty c =
    hand_empty c.args.slots.now.items c.args.name.now c.in-Some.place (Some c.in-Some.header) c.take_named.new.slots.items c.in-Some.ensures.taken

pub empty_this_buffer-requires : goal.empty_this_buffer-requires
empty_this_buffer-requires c =
    let old = parts c.args.graph.now c.args.components.now c.args.slots.now.items in
    let T = c.in-Some.ensures.taken in
    let handed = given_handed old (graph_kept c.args.graph.now) c.args.name.now c.in-Some.place c.in-Some.header c.take_named.new.slots.items T c.requires c.args.port.now c.port_id-port.result c.port_id-port.ensures c.args.bytes.now c.args.eos c.fill.new.self
    (filled_by c.fill.new.self c.args.bytes.now c.from.result c.args.eos c.in-Some.header c.in-Ok.ensures.filled c.from.ensures) (fits_in c.args.bytes.now c.in-Some.header.held.size (λ l. let e = c.in-Ok.ensures.too_long l in cc)) in
    record { handed = handed }

pub returns-in-Ok-empty_this_buffer : goal.returns-in-Ok-empty_this_buffer
returns-in-Ok-empty_this_buffer c =
    let old = parts c.args.graph.now c.args.components.now c.args.slots.now.items in
    let T = c.in-Some.ensures.taken in
    emptied old (graph_kept c.empty_this_buffer.new.self) c.args.name.now c.in-Some.place c.in-Some.header c.take_named.new.slots.items T c.requires c.args.port.now c.port_id-port.result c.port_id-port.ensures c.args.bytes.now c.args.eos c.fill.new.self
    (filled_by c.fill.new.self c.args.bytes.now c.from.result c.args.eos c.in-Some.header c.in-Ok.ensures.filled c.from.ensures) (fits_in c.args.bytes.now c.in-Some.header.held.size (λ l. let e = c.in-Ok.ensures.too_long l in cc))
    c.in-Ok-empty_this_buffer.ensures.step

pub returns-in-Err : goal.returns-in-Err
returns-in-Err c =
    let old = parts c.args.graph.now c.args.components.now c.args.slots.now.items in
    let T = c.in-Some.ensures.taken in
    empty_refused old (graph_kept c.empty_this_buffer.new.self) c.args.name.now c.in-Some.place c.in-Some.header c.take_named.new.slots.items T c.requires c.args.port.now c.port_id-port.result c.port_id-port.ensures c.args.bytes.now c.args.eos c.fill.new.self
    (filled_by c.fill.new.self c.args.bytes.now c.from.result c.args.eos c.in-Some.header c.in-Ok.ensures.filled c.from.ensures) (fits_in c.args.bytes.now c.in-Some.header.held.size (λ l. let e = c.in-Ok.ensures.too_long l in cc))
    c.in-Err.error c.put_hand-in-Err.new.slots.items (same_back c.in-Some.place c.in-Err.header c.fill.new.self c.take_named.new.slots.items c.put_hand-in-Err.new.slots.items c.in-Err.ensures.handed_back c.put_hand-in-Err.ensures) c.in-Err.ensures.step
