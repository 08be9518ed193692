use Rattle.std.proofs.Common.{vec_capacity, ℕ, Some, refl, sym, subst}
use Rattle.il_machine.specs.declared.header.Owner.TheVariants as owners
use Rattle.il_machine.specs.Headers.{spot_queue}
use Rattle.il_machine.specs.Buffers.{load_in}
use Rattle.il_machine.specs.Stock.{pushed}
use Rattle.port_stock.specs.Blocks.{blocks_out, key_of}
use Rattle.port_stock.specs.Kept.{stocked}
use Rattle.port_stock.specs.Conditions.{IsOutside}
use Rattle.port_stock.specs.Entries.{AreOf}
use Rattle.port_stock.proofs.Finding.{requeued_after}
use Rattle.port_stock.proofs.Knowing.{counted_behind, known_put}
use Rattle.port_stock.proofs.Turning.{Turns, before_for, count_all, count_before, count_peer, count_port, old, own_key, port_there, push_turns, put_done_room, put_todo_room, table_out}
use Rattle.port_stock.proofs.stock.Stock.push_header.Goals as goal

pub put-before-requires-clause-outside : goal.put-before-requires-clause-outside
put-before-requires-clause-outside c = table_out (key_of c.self.inside.region) c.self.inside.ports.items c.self.inside.entries.items (blocks_out c.self.inside.region) c.self.inside.next _ c.self.invariant.0 c.args.header (rw c.self.view_is c.requires.outside)

pub put-before-requires-clause-once : goal.put-before-requires-clause-once
put-before-requires-clause-once c = c.self.invariant.0.once

pub put-before-requires-clause-kept : goal.put-before-requires-clause-kept
put-before-requires-clause-kept c = c.self.invariant.0.kept

pub put-requires-clause-there : goal.put-requires-clause-there
put-requires-clause-there c = port_there (key_of c.self.inside.region) c.self.inside.ports.items c.self.inside.entries.items (blocks_out c.self.inside.region) c.self.inside.next _ c.self.invariant.0 c.args.port (rw c.self.view_is c.requires.port)

pub put-requires-clause-differ : goal.put-requires-clause-differ
put-requires-clause-differ c = c.self.invariant.0.differ

pub put-requires-clause-todo : goal.put-requires-clause-todo
put-requires-clause-todo c = put_todo_room (key_of c.self.inside.region) c.self.inside.ports.items c.self.inside.entries.items (blocks_out c.self.inside.region) c.self.inside.next _ c.self.invariant.0 c.args.header c.args.port c.put-before.result (rw c.self.view_is c.requires.outside) (rw c.self.view_is c.requires.made_for) c.put-before.ensures.before

pub put-requires-clause-done : goal.put-requires-clause-done
put-requires-clause-done c = put_done_room (key_of c.self.inside.region) c.self.inside.ports.items c.self.inside.entries.items (blocks_out c.self.inside.region) c.self.inside.next _ c.self.invariant.0 c.args.header c.args.port c.put-before.result (rw c.self.view_is c.requires.outside) (rw c.self.view_is c.requires.made_for) c.put-before.ensures.before

pub reown-requires-clause-port : goal.reown-requires-clause-port
reown-requires-clause-port c = rw c.put.ensures.keys (count_port (key_of c.self.inside.region) c.self.inside.ports.items c.self.inside.entries.items (blocks_out c.self.inside.region) c.self.inside.next _ c.self.invariant.0 c.args.header.held.number c.put-before.result c.put-before.ensures.before)

pub reown-requires-clause-peer : goal.reown-requires-clause-peer
reown-requires-clause-peer c = rw c.put.ensures.keys (count_peer (key_of c.self.inside.region) c.self.inside.ports.items c.self.inside.entries.items (blocks_out c.self.inside.region) c.self.inside.next _ c.self.invariant.0 c.args.header.held.number c.put-before.result c.put-before.ensures.before)

pub reown-requires-clause-differ : goal.reown-requires-clause-differ
reown-requires-clause-differ c = c.put.ensures.differ

pub reown-requires-clause-counted : goal.reown-requires-clause-counted
reown-requires-clause-counted c =
    counted_behind c.args.port c.args.spot _ _ c.self.inside.ports.items c.put.new.ports.items (count_all (key_of c.self.inside.region) c.self.inside.ports.items c.self.inside.entries.items (blocks_out c.self.inside.region) c.self.inside.next _ c.self.invariant.0 c.args.header.held.number c.put-before.result c.put-before.ensures.before) c.put.ensures

pub reown-requires-clause-before : goal.reown-requires-clause-before
reown-requires-clause-before c = (count_before (key_of c.self.inside.region) c.self.inside.ports.items c.self.inside.entries.items (blocks_out c.self.inside.region) c.self.inside.next _ c.self.invariant.0 c.args.header.held.number c.put-before.result c.put-before.ensures.before).2

pub reown-requires-clause-after : goal.reown-requires-clause-after
reown-requires-clause-after c =
    (known_put c.args.port c.args.spot c.put-before.result (before_for (key_of c.self.inside.region) c.self.inside.ports.items c.self.inside.entries.items (blocks_out c.self.inside.region) c.self.inside.next _ c.self.invariant.0 c.args.header c.args.port c.put-before.result c.put-before.ensures.before (rw c.self.view_is c.requires.made_for))).2

turns : (c : goal.After-reown) → Turns (key_of c.self.inside.region) c.reown.new.ports.items c.put-before.new.entries.items (blocks_out c.self.inside.region) c.self.inside.next (vec_capacity c.put-before.new.entries) (pushed c.args.port c.args.spot c.args.header.held.number (load_in c.args.header.held) (stocked (old (key_of c.self.inside.region) c.self.inside.ports.items c.self.inside.entries.items (blocks_out c.self.inside.region) c.self.inside.next _ c.self.invariant.0)))
turns c =
    let outside : IsOutside c.args.header (stocked (old (key_of c.self.inside.region) c.self.inside.ports.items c.self.inside.entries.items (blocks_out c.self.inside.region) c.self.inside.next _ c.self.invariant.0)) = rw c.self.view_is c.requires.outside in
    let own = own_key (key_of c.self.inside.region) c.self.inside.ports.items c.self.inside.entries.items (blocks_out c.self.inside.region) c.self.inside.next _ c.self.invariant.0 c.args.header outside in
    let keys : AreOf (key_of c.self.inside.region) c.put-before.new.entries.items = subst (λ (k : ℕ). AreOf k c.put-before.new.entries.items) own (c.put-before.ensures.keys (subst (λ (k : ℕ). AreOf k c.self.inside.entries.items) (sym own) c.self.invariant.0.keys)) in
    push_turns (key_of c.self.inside.region) c.self.inside.ports.items c.self.inside.entries.items (blocks_out c.self.inside.region) c.self.inside.next _ c.self.invariant.0 c.put.new.ports.items c.reown.new.ports.items c.put-before.new.entries.items _ c.args.port c.args.spot c.args.header c.put-before.result _
    outside (rw c.self.view_is c.requires.made_for) c.put-before.ensures.before refl c.put-before.ensures.headers c.put-before.ensures.kept keys (rw c.id-number.ensures at c.put.ensures)
    (requeued_after (Some c.put-before.result) (record c.put-before.result { owner = owners.Port c.args.port }) (spot_queue c.args.spot) c.put.new.ports.items c.reown.new.ports.items c.reown.ensures) c.put-before.ensures.capacity

pub invariant_of-self : goal.invariant_of-self
invariant_of-self c = ((turns c).lawful, c.self.invariant.1)

pub returns : goal.returns
returns c = rw (← c.self.view_is) (turns c).is
