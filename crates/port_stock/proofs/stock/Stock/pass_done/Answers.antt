use Rattle.std.proofs.Common.{vec_capacity, sym, ◌∙◌}
use Rattle.port_stock.specs.Blocks.{blocks_out, key_of}
use Rattle.port_stock.proofs.Passing.{none_done, none_passed, pass_counted, pass_done_room, pass_is, pass_owned, pass_todo_room, pass_turns, passed_value, some_done}
use Rattle.port_stock.proofs.Turning.{Turns, count_before, count_peer, count_port, port_there, send_none_turns, send_waits}
use Rattle.port_stock.proofs.stock.Stock.pass_done.Goals as goal

pub send-requires-clause-there : goal.send-requires-clause-there
send-requires-clause-there c = port_there (key_of c.self.inside.region) c.self.inside.ports.items c.self.inside.entries.items (blocks_out c.self.inside.region) c.self.inside.next _ c.self.invariant.0 c.args.port (rw c.self.view_is c.requires.port)

pub send-requires-clause-differ : goal.send-requires-clause-differ
send-requires-clause-differ c = c.self.invariant.0.differ

pub invariant_of-self : goal.invariant_of-self
invariant_of-self c = ((send_none_turns (key_of c.self.inside.region) c.self.inside.ports.items c.self.inside.entries.items (blocks_out c.self.inside.region) c.self.inside.next _ c.self.invariant.0 c.send.new.ports.items c.args.port (sym c.in_default.is ∙ c.send.ensures.front) c.send.ensures.ports).lawful, c.self.invariant.1)

pub returns-in_default-clause-some : goal.returns-in_default-clause-some
returns-in_default-clause-some c = rw (← c.self.view_is) (none_done (key_of c.self.inside.region) c.self.inside.ports.items c.self.inside.entries.items (blocks_out c.self.inside.region) c.self.inside.next _ c.self.invariant.0 c.args.port (sym c.in_default.is ∙ c.send.ensures.front))

pub returns-in_default-clause-stock : goal.returns-in_default-clause-stock
returns-in_default-clause-stock c = rw (← c.self.view_is) (none_passed (key_of c.self.inside.region) c.self.inside.ports.items c.self.inside.entries.items (blocks_out c.self.inside.region) c.self.inside.next _ c.self.invariant.0 c.args.port (sym c.in_default.is ∙ c.send.ensures.front) c.args.to c.args.spot c.send.new.ports.items c.send.ensures.ports)

pub pass-before-requires-clause-waits : goal.pass-before-requires-clause-waits
pass-before-requires-clause-waits c = send_waits (key_of c.self.inside.region) c.self.inside.ports.items c.self.inside.entries.items (blocks_out c.self.inside.region) c.self.inside.next _ c.self.invariant.0 c.args.port c.in-Some.number (sym c.in-Some.is ∙ c.send.ensures.front)

pub pass-before-requires-clause-once : goal.pass-before-requires-clause-once
pass-before-requires-clause-once c = c.self.invariant.0.once

pub pass-before-requires-clause-kept : goal.pass-before-requires-clause-kept
pass-before-requires-clause-kept c = c.self.invariant.0.kept

pub put-requires-clause-there : goal.put-requires-clause-there
put-requires-clause-there c = rw c.send.ensures.ports.keys (port_there (key_of c.self.inside.region) c.self.inside.ports.items c.self.inside.entries.items (blocks_out c.self.inside.region) c.self.inside.next _ c.self.invariant.0 c.args.to (rw c.self.view_is c.requires.to))

pub put-requires-clause-differ : goal.put-requires-clause-differ
put-requires-clause-differ c = c.send.ensures.ports.differ

pub put-requires-clause-todo : goal.put-requires-clause-todo
put-requires-clause-todo c = pass_todo_room (key_of c.self.inside.region) c.self.inside.ports.items c.self.inside.entries.items (blocks_out c.self.inside.region) c.self.inside.next _ c.self.invariant.0 c.args.port c.in-Some.number (sym c.in-Some.is ∙ c.send.ensures.front) c.send.new.ports.items c.send.ensures.ports c.pass-before.result c.pass-before.ensures.before c.args.to (rw c.self.view_is c.requires.made_for)

pub put-requires-clause-done : goal.put-requires-clause-done
put-requires-clause-done c = pass_done_room (key_of c.self.inside.region) c.self.inside.ports.items c.self.inside.entries.items (blocks_out c.self.inside.region) c.self.inside.next _ c.self.invariant.0 c.args.port c.in-Some.number (sym c.in-Some.is ∙ c.send.ensures.front) c.send.new.ports.items c.send.ensures.ports c.pass-before.result c.pass-before.ensures.before c.args.to (rw c.self.view_is c.requires.made_for)

pub reown-requires-clause-port : goal.reown-requires-clause-port
reown-requires-clause-port c = rw (c.put.ensures.keys, c.send.ensures.ports.keys) (count_port (key_of c.self.inside.region) c.self.inside.ports.items c.self.inside.entries.items (blocks_out c.self.inside.region) c.self.inside.next _ c.self.invariant.0 c.in-Some.number c.pass-before.result c.pass-before.ensures.before)

pub reown-requires-clause-peer : goal.reown-requires-clause-peer
reown-requires-clause-peer c = rw (c.put.ensures.keys, c.send.ensures.ports.keys) (count_peer (key_of c.self.inside.region) c.self.inside.ports.items c.self.inside.entries.items (blocks_out c.self.inside.region) c.self.inside.next _ c.self.invariant.0 c.in-Some.number c.pass-before.result c.pass-before.ensures.before)

pub reown-requires-clause-differ : goal.reown-requires-clause-differ
reown-requires-clause-differ c = c.put.ensures.differ

pub reown-requires-clause-counted : goal.reown-requires-clause-counted
reown-requires-clause-counted c = pass_counted (key_of c.self.inside.region) c.self.inside.ports.items c.self.inside.entries.items (blocks_out c.self.inside.region) c.self.inside.next _ c.self.invariant.0 c.args.port c.in-Some.number (sym c.in-Some.is ∙ c.send.ensures.front) c.send.new.ports.items c.send.ensures.ports c.pass-before.result c.pass-before.ensures.before c.args.to (rw c.self.view_is c.requires.made_for) c.args.spot c.put.new.ports.items c.put.ensures

pub reown-requires-clause-before : goal.reown-requires-clause-before
reown-requires-clause-before c = (count_before (key_of c.self.inside.region) c.self.inside.ports.items c.self.inside.entries.items (blocks_out c.self.inside.region) c.self.inside.next _ c.self.invariant.0 c.in-Some.number c.pass-before.result c.pass-before.ensures.before).2

pub reown-requires-clause-after : goal.reown-requires-clause-after
reown-requires-clause-after c = pass_owned (key_of c.self.inside.region) c.self.inside.ports.items c.self.inside.entries.items (blocks_out c.self.inside.region) c.self.inside.next _ c.self.invariant.0 c.args.port c.in-Some.number (sym c.in-Some.is ∙ c.send.ensures.front) c.send.new.ports.items c.send.ensures.ports c.pass-before.result c.pass-before.ensures.before c.args.to (rw c.self.view_is c.requires.made_for)

turns : (c : goal.After-reown) → Turns (key_of c.self.inside.region) c.reown.new.ports.items c.pass-before.new.entries.items (blocks_out c.self.inside.region) c.self.inside.next (vec_capacity c.pass-before.new.entries) (passed_value (key_of c.self.inside.region) c.self.inside.ports.items c.self.inside.entries.items (blocks_out c.self.inside.region) c.self.inside.next _ c.self.invariant.0 c.args.port c.in-Some.number (sym c.in-Some.is ∙ c.send.ensures.front) c.send.new.ports.items c.send.ensures.ports c.args.to c.args.spot)
turns c =
    pass_turns (key_of c.self.inside.region) c.self.inside.ports.items c.self.inside.entries.items (blocks_out c.self.inside.region) c.self.inside.next _ c.self.invariant.0 c.args.port c.in-Some.number (sym c.in-Some.is ∙ c.send.ensures.front) c.send.new.ports.items c.send.ensures.ports c.pass-before.result c.pass-before.ensures.before c.args.to (rw c.self.view_is c.requires.made_for) c.put.new.ports.items c.reown.new.ports.items c.pass-before.new.entries.items _ c.args.spot c.pass-before.ensures.headers c.pass-before.ensures.kept
    (c.pass-before.ensures.keys (key_of c.self.inside.region) c.self.invariant.0.keys) c.put.ensures c.reown.ensures c.pass-before.ensures.capacity

pub invariant_of-self-2 : goal.invariant_of-self-2
invariant_of-self-2 c = ((turns c).lawful, c.self.invariant.1)

pub returns-clause-some : goal.returns-clause-some
returns-clause-some c = rw (← c.self.view_is) (some_done (key_of c.self.inside.region) c.self.inside.ports.items c.self.inside.entries.items (blocks_out c.self.inside.region) c.self.inside.next _ c.self.invariant.0 c.args.port c.in-Some.number (sym c.in-Some.is ∙ c.send.ensures.front) c.send.new.ports.items c.send.ensures.ports)

pub returns-clause-stock : goal.returns-clause-stock
returns-clause-stock c = rw (← c.self.view_is) (pass_is (key_of c.self.inside.region) c.self.inside.ports.items c.self.inside.entries.items (blocks_out c.self.inside.region) c.self.inside.next _ c.self.invariant.0 c.args.port c.in-Some.number (sym c.in-Some.is ∙ c.send.ensures.front) c.send.new.ports.items c.send.ensures.ports c.args.to c.args.spot _ (turns c).is)
