use Rattle.std.proofs.Common.{vec_capacity, ◌≡◌, ◌+◌, Bool, not, arith, subst}
use Rattle.il_machine.specs.Headers.{weight}
use Rattle.il_machine.specs.Buffers.{is_block}
use Rattle.il_machine.specs.Stock.{header_unmade}
use Rattle.port_stock.specs.Blocks.{blocks_out, key_of}
use Rattle.port_stock.specs.Kept.{stocked}
use Rattle.port_stock.proofs.Blocks.{back_home, blocks_kept, turned_key}
use Rattle.port_stock.proofs.Turning.{Turns, before_header, block_there, count_all, count_before, count_peer, count_port, old, own_key, table_only_out, unmake_turns}
use Rattle.port_stock.proofs.stock.Stock.unmake_header.Goals as goal

pub remove-before-requires-clause-outside : goal.remove-before-requires-clause-outside
remove-before-requires-clause-outside c = rw c.id.ensures (table_only_out (key_of c.self.inside.region) c.self.inside.ports.items c.self.inside.entries.items (blocks_out c.self.inside.region) c.self.inside.next _ c.self.invariant.0 c.args.header (rw c.self.view_is c.requires))

pub recount-requires-clause-port : goal.recount-requires-clause-port
recount-requires-clause-port c = count_port (key_of c.self.inside.region) c.self.inside.ports.items c.self.inside.entries.items (blocks_out c.self.inside.region) c.self.inside.next _ c.self.invariant.0 _ c.remove-before.result c.remove-before.ensures.before

pub recount-requires-clause-peer : goal.recount-requires-clause-peer
recount-requires-clause-peer c = count_peer (key_of c.self.inside.region) c.self.inside.ports.items c.self.inside.entries.items (blocks_out c.self.inside.region) c.self.inside.next _ c.self.invariant.0 _ c.remove-before.result c.remove-before.ensures.before

pub recount-requires-clause-counted : goal.recount-requires-clause-counted
recount-requires-clause-counted c = count_all (key_of c.self.inside.region) c.self.inside.ports.items c.self.inside.entries.items (blocks_out c.self.inside.region) c.self.inside.next _ c.self.invariant.0 _ c.remove-before.result c.remove-before.ensures.before

pub recount-requires-clause-before : goal.recount-requires-clause-before
recount-requires-clause-before c = count_before (key_of c.self.inside.region) c.self.inside.ports.items c.self.inside.entries.items (blocks_out c.self.inside.region) c.self.inside.next _ c.self.invariant.0 _ c.remove-before.result c.remove-before.ensures.before

pub into_memory-requires : goal.into_memory-requires
into_memory-requires c = own_key (key_of c.self.inside.region) c.self.inside.ports.items c.self.inside.entries.items (blocks_out c.self.inside.region) c.self.inside.next _ c.self.invariant.0 c.args.header (rw c.self.view_is c.requires)

-- as many blocks as the header has are back
back : (c : goal.After-into_memory) → c.into_memory.new.region.free ≡ c.self.inside.region.free + weight (is_block c.remove-before.result)
back c =
    let before = before_header (key_of c.self.inside.region) c.self.inside.ports.items c.self.inside.entries.items (blocks_out c.self.inside.region) c.self.inside.next _ c.self.invariant.0 c.args.header c.remove-before.result (rw c.self.view_is c.requires) (rw c.id.ensures at c.remove-before.ensures.before) in
    subst (λ (b : Bool). c.into_memory.new.region.free ≡ c.self.inside.region.free + weight (not b)) before.memory c.into_memory.ensures.free

turns : (c : goal.After-into_memory) → Turns (key_of c.into_memory.new.region) c.recount.new.ports.items c.remove-before.new.entries.items (blocks_out c.into_memory.new.region) c.self.inside.next (vec_capacity c.remove-before.new.entries) (header_unmade c.args.header.held.number (stocked (old (key_of c.self.inside.region) c.self.inside.ports.items c.self.inside.entries.items (blocks_out c.self.inside.region) c.self.inside.next _ c.self.invariant.0)))
turns c =
    let there = block_there (key_of c.self.inside.region) c.self.inside.ports.items c.self.inside.entries.items (blocks_out c.self.inside.region) c.self.inside.next _ c.self.invariant.0 _ c.remove-before.result c.remove-before.ensures.before in
    turned_key c.self.inside.region c.into_memory.new.region c.recount.new.ports.items c.remove-before.new.entries.items (blocks_out c.into_memory.new.region) c.self.inside.next _ _ c.into_memory.ensures.same
    (unmake_turns (key_of c.self.inside.region) c.self.inside.ports.items c.self.inside.entries.items (blocks_out c.self.inside.region) c.self.inside.next _ c.self.invariant.0 c.recount.new.ports.items c.remove-before.new.entries.items (blocks_out c.into_memory.new.region) _ c.args.header c.remove-before.result (rw c.self.view_is c.requires) (rw c.id.ensures at c.remove-before.ensures.before)
    (rw c.id.ensures at c.remove-before.ensures.headers) c.remove-before.ensures.kept (c.remove-before.ensures.keys (key_of c.self.inside.region) c.self.invariant.0.keys) c.recount.ensures (back_home c.self.inside.region c.into_memory.new.region _ (back c) there) c.remove-before.ensures.capacity)

pub invariant_of-self : goal.invariant_of-self
invariant_of-self c =
    let there = block_there (key_of c.self.inside.region) c.self.inside.ports.items c.self.inside.entries.items (blocks_out c.self.inside.region) c.self.inside.next _ c.self.invariant.0 _ c.remove-before.result c.remove-before.ensures.before in
    let few = c.self.invariant.1.free in
    let home = back c in
    ((turns c).lawful, blocks_kept c.self.inside.region c.into_memory.new.region c.into_memory.ensures.same (omega arith) c.self.invariant.1)

pub returns-clause-stock : goal.returns-clause-stock
returns-clause-stock c = rw (← c.self.view_is) (turns c).is
