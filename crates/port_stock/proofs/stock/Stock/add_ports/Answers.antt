use Rattle.std.proofs.Common.{vec_capacity, ◌≡◌, ◌+◌, ◌*◌, ◌≤◌, ◌++◌, ◌∙◌, List, ap, length, subst, sym}
use Rattle.il_machine.specs.Stock.{added}
use Rattle.port_stock.specs.Blocks.{blocks_out, key_of}
use Rattle.port_stock.specs.declared.entry.Entry.{Entry}
use Rattle.port_stock.specs.declared.port.Port.{Port}
use Rattle.port_stock.specs.Kept.{stocked}
use Rattle.port_stock.specs.Rings.{new_ports}
use Rattle.port_stock.proofs.Turning.{Turns, old}
use Rattle.port_stock.proofs.Adding.{add_turns, on_err, same_turns}
use Rattle.port_stock.proofs.stock.Stock.add_ports.Goals as goal
use Rattle.port_stock.proofs.stock.Stock.add_ports.Goals.{In_ok-add}

unreserved : (c : goal.After-from_residual) → Turns (key_of c.self.inside.region) c.reserve.new.ports.items c.reserve.new.entries.items (blocks_out c.self.inside.region) c.self.inside.next (vec_capacity c.reserve.new.entries) (stocked (old (key_of c.self.inside.region) c.self.inside.ports.items c.self.inside.entries.items (blocks_out c.self.inside.region) c.self.inside.next _ c.self.invariant.0))
unreserved c = same_turns (key_of c.self.inside.region) c.self.inside.ports.items c.self.inside.entries.items (blocks_out c.self.inside.region) c.self.inside.next _ c.self.invariant.0 _ _ _ c.reserve.ensures.ports c.reserve.ensures.entries c.reserve.ensures.kept

pub invariant_of-self : goal.invariant_of-self
invariant_of-self c = ((unreserved c).lawful, c.self.invariant.1)

pub returns-in_err-reserve-clause-err : goal.returns-in_err-reserve-clause-err
returns-in_err-reserve-clause-err c = on_err c.from_residual.result _ (rw (← c.self.view_is) (unreserved c).is)

unadded : (c : goal.After-from_residual-in_err-add) → Turns (key_of c.self.inside.region) c.add.new.ports.items c.reserve.new.entries.items (blocks_out c.self.inside.region) c.self.inside.next (vec_capacity c.reserve.new.entries) (stocked (old (key_of c.self.inside.region) c.self.inside.ports.items c.self.inside.entries.items (blocks_out c.self.inside.region) c.self.inside.next _ c.self.invariant.0))
unadded c = same_turns (key_of c.self.inside.region) c.self.inside.ports.items c.self.inside.entries.items (blocks_out c.self.inside.region) c.self.inside.next _ c.self.invariant.0 _ _ _ (c.in_err-add.ensures.err ∙ c.reserve.ensures.ports) c.reserve.ensures.entries c.reserve.ensures.kept

pub invariant_of-self-in_err-add : goal.invariant_of-self-in_err-add
invariant_of-self-in_err-add c = ((unadded c).lawful, c.self.invariant.1)

pub returns-in_err-add-clause-err : goal.returns-in_err-add-clause-err
returns-in_err-add-clause-err c = on_err c.from_residual-in_err-add.result _ (rw (← c.self.view_is) (unadded c).is)

now : (c : In_ok-add) → c.add.new.ports.items ≡ c.self.inside.ports.items ++ new_ports c.args.component 0 (c.args.inputs + c.args.outputs)
now c = c.in_ok-add.ensures.ok ∙ ap (λ (v : List Port). v ++ new_ports c.args.component 0 (c.args.inputs + c.args.outputs)) c.reserve.ensures.ports

turns : (c : In_ok-add) → Turns (key_of c.self.inside.region) c.add.new.ports.items c.reserve.new.entries.items (blocks_out c.self.inside.region) c.self.inside.next (vec_capacity c.reserve.new.entries) (added c.args.component (c.args.inputs + c.args.outputs) (stocked (old (key_of c.self.inside.region) c.self.inside.ports.items c.self.inside.entries.items (blocks_out c.self.inside.region) c.self.inside.next _ c.self.invariant.0)))
turns c =
    let room : 32 * (length c.self.inside.ports.items + (c.args.inputs + c.args.outputs)) ≤ vec_capacity c.reserve.new.entries = rw (← c.self.inside.ports.ok.0) c.in_ok-reserve.ensures.entries_room in
    subst (λ (v : List Entry). Turns (key_of c.self.inside.region) c.add.new.ports.items v (blocks_out c.self.inside.region) c.self.inside.next (vec_capacity c.reserve.new.entries) (added c.args.component (c.args.inputs + c.args.outputs) (stocked (old (key_of c.self.inside.region) c.self.inside.ports.items c.self.inside.entries.items (blocks_out c.self.inside.region) c.self.inside.next _ c.self.invariant.0)))) (sym c.reserve.ensures.entries)
    (add_turns (key_of c.self.inside.region) c.self.inside.ports.items c.self.inside.entries.items (blocks_out c.self.inside.region) c.self.inside.next _ c.self.invariant.0 c.add.new.ports.items c.args.component (c.args.inputs + c.args.outputs) _ (now c) (rw c.self.view_is c.requires.without) room)

pub invariant_of-self-2 : goal.invariant_of-self-2
invariant_of-self-2 c = ((turns c).lawful, c.self.invariant.1)

pub returns-clause-ok : goal.returns-clause-ok
returns-clause-ok c = rw (← c.self.view_is) (turns c).is
