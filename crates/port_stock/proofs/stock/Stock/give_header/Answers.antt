use Rattle.std.proofs.Common.{vec_capacity, Some, refl}
use Rattle.il_machine.specs.declared.header.Queue.TheVariants.{Out}
use Rattle.il_machine.specs.Stock.{header_given}
use Rattle.port_stock.specs.Blocks.{blocks_out, key_of}
use Rattle.port_stock.specs.Kept.{stocked}
use Rattle.port_stock.proofs.Finding.{requeued_after}
use Rattle.port_stock.proofs.Knowing.{known_given}
use Rattle.port_stock.proofs.Turning.{Turns, count_all, count_before, count_peer, count_port, give_turns, number_out, old}
use Rattle.port_stock.proofs.stock.Stock.give_header.Goals as goal

pub give-before-requires-clause-outside : goal.give-before-requires-clause-outside
give-before-requires-clause-outside c = number_out (key_of c.self.inside.region) c.self.inside.ports.items c.self.inside.entries.items (blocks_out c.self.inside.region) c.self.inside.next _ c.self.invariant.0 c.args.id (rw c.self.view_is c.requires.outside)

pub reown-requires-clause-port : goal.reown-requires-clause-port
reown-requires-clause-port c = count_port (key_of c.self.inside.region) c.self.inside.ports.items c.self.inside.entries.items (blocks_out c.self.inside.region) c.self.inside.next _ c.self.invariant.0 c.args.id c.give-before.result c.give-before.ensures.before

pub reown-requires-clause-peer : goal.reown-requires-clause-peer
reown-requires-clause-peer c = count_peer (key_of c.self.inside.region) c.self.inside.ports.items c.self.inside.entries.items (blocks_out c.self.inside.region) c.self.inside.next _ c.self.invariant.0 c.args.id c.give-before.result c.give-before.ensures.before

pub reown-requires-clause-counted : goal.reown-requires-clause-counted
reown-requires-clause-counted c = count_all (key_of c.self.inside.region) c.self.inside.ports.items c.self.inside.entries.items (blocks_out c.self.inside.region) c.self.inside.next _ c.self.invariant.0 c.args.id c.give-before.result c.give-before.ensures.before

pub reown-requires-clause-before : goal.reown-requires-clause-before
reown-requires-clause-before c = (count_before (key_of c.self.inside.region) c.self.inside.ports.items c.self.inside.entries.items (blocks_out c.self.inside.region) c.self.inside.next _ c.self.invariant.0 c.args.id c.give-before.result c.give-before.ensures.before).2

pub reown-requires-clause-after : goal.reown-requires-clause-after
reown-requires-clause-after c = (known_given c.args.owner c.give-before.result _ c.requires.owner refl).2

turns : (c : goal.After-reown) → Turns (key_of c.self.inside.region) c.reown.new.ports.items c.give-before.new.entries.items (blocks_out c.self.inside.region) c.self.inside.next (vec_capacity c.give-before.new.entries) (header_given c.args.id c.args.owner (stocked (old (key_of c.self.inside.region) c.self.inside.ports.items c.self.inside.entries.items (blocks_out c.self.inside.region) c.self.inside.next _ c.self.invariant.0)))
turns c =
    give_turns (key_of c.self.inside.region) c.self.inside.ports.items c.self.inside.entries.items (blocks_out c.self.inside.region) c.self.inside.next _ c.self.invariant.0 c.reown.new.ports.items c.give-before.new.entries.items _ c.args.id c.args.owner c.give-before.result _ (rw c.self.view_is c.requires.outside) c.requires.owner c.give-before.ensures.before refl
    c.give-before.ensures.headers c.give-before.ensures.kept (c.give-before.ensures.keys (key_of c.self.inside.region) c.self.invariant.0.keys)
    (requeued_after (Some c.give-before.result) (record c.give-before.result { owner = c.args.owner }) Out c.self.inside.ports.items c.reown.new.ports.items c.reown.ensures) c.give-before.ensures.capacity

pub invariant_of-self : goal.invariant_of-self
invariant_of-self c = ((turns c).lawful, c.self.invariant.1)

pub returns : goal.returns
returns c = rw (← c.self.view_is) (turns c).is
