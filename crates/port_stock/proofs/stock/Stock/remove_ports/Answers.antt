use Rattle.std.proofs.Common.{vec_capacity}
use Rattle.il_machine.specs.Stock.{removed}
use Rattle.port_stock.specs.Blocks.{blocks_out, key_of}
use Rattle.port_stock.specs.Kept.{stocked}
use Rattle.port_stock.proofs.Turning.{Turns, old}
use Rattle.port_stock.proofs.Adding.{remove_turns}
use Rattle.port_stock.proofs.stock.Stock.remove_ports.Goals as goal

turns : (c : goal.After-remove) → Turns (key_of c.self.inside.region) c.remove.new.ports.items c.self.inside.entries.items (blocks_out c.self.inside.region) c.self.inside.next (vec_capacity c.self.inside.entries) (removed c.args.component (stocked (old (key_of c.self.inside.region) c.self.inside.ports.items c.self.inside.entries.items (blocks_out c.self.inside.region) c.self.inside.next _ c.self.invariant.0)))
turns c = remove_turns (key_of c.self.inside.region) c.self.inside.ports.items c.self.inside.entries.items (blocks_out c.self.inside.region) c.self.inside.next _ c.self.invariant.0 c.remove.new.ports.items c.args.component c.remove.ensures (rw (c.self.view_is) c.requires)

pub invariant_of-self : goal.invariant_of-self
invariant_of-self c = ((turns c).lawful, c.self.invariant.1)

pub returns : goal.returns
returns c = rw (← c.self.view_is) (turns c).is
