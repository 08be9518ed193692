use Rattle.std.proofs.Common.{vec_capacity, sym, ◌∙◌, ap, is_some}
use Rattle.stock_laws.specs.Changes.{marked_first}
use Rattle.port_stock.specs.Blocks.{blocks_out, key_of}
use Rattle.port_stock.specs.Kept.{stocked}
use Rattle.port_stock.specs.declared.port.Port.{Port}
use Rattle.port_stock.proofs.Turning.{Turns, front_unmarked, mark_none, mark_turns, mark_waits, old, port_there, some_unmarked}
use Rattle.port_stock.proofs.stock.Stock.mark_first.Goals as goal

pub at-requires-clause-there : goal.at-requires-clause-there
at-requires-clause-there c = rw c.deref.ensures.value (port_there (key_of c.self.inside.region) c.self.inside.ports.items c.self.inside.entries.items (blocks_out c.self.inside.region) c.self.inside.next _ c.self.invariant.0 c.args.port (rw c.self.view_is c.requires))

pub at-requires-clause-differ : goal.at-requires-clause-differ
at-requires-clause-differ c = rw c.deref.ensures.value c.self.invariant.0.differ

pub first_unmarked-requires : goal.first_unmarked-requires
first_unmarked-requires c = rw c.deref-2.ensures.value c.self.invariant.0.once

pub returns-in_default-clause-some : goal.returns-in_default-clause-some
returns-in_default-clause-some c = rw (← c.self.view_is) (ap is_some (sym c.in_default.is) ∙ some_unmarked (key_of c.self.inside.region) c.self.inside.ports.items c.self.inside.entries.items (blocks_out c.self.inside.region) c.self.inside.next _ c.self.invariant.0 c.args.port c.first_unmarked.result (front_unmarked (key_of c.self.inside.region) c.self.inside.ports.items c.self.inside.entries.items (blocks_out c.self.inside.region) c.self.inside.next _ c.self.invariant.0 c.args.port _ _ (ap (λ (p : Port). p.todo.items) (rw c.deref.ensures.value at c.at.ensures)) (rw c.deref-2.ensures.value at c.first_unmarked.ensures)))

pub returns-in_default-clause-stock : goal.returns-in_default-clause-stock
returns-in_default-clause-stock c = rw (← c.self.view_is) (mark_none (key_of c.self.inside.region) c.self.inside.ports.items c.self.inside.entries.items (blocks_out c.self.inside.region) c.self.inside.next _ c.self.invariant.0 c.args.port c.args.mark (sym c.in_default.is ∙ (front_unmarked (key_of c.self.inside.region) c.self.inside.ports.items c.self.inside.entries.items (blocks_out c.self.inside.region) c.self.inside.next _ c.self.invariant.0 c.args.port _ _ (ap (λ (p : Port). p.todo.items) (rw c.deref.ensures.value at c.at.ensures)) (rw c.deref-2.ensures.value at c.first_unmarked.ensures))))

pub mark-requires-clause-waits : goal.mark-requires-clause-waits
mark-requires-clause-waits c = mark_waits (key_of c.self.inside.region) c.self.inside.ports.items c.self.inside.entries.items (blocks_out c.self.inside.region) c.self.inside.next _ c.self.invariant.0 c.args.port c.in-Some.number (sym c.in-Some.is ∙ (front_unmarked (key_of c.self.inside.region) c.self.inside.ports.items c.self.inside.entries.items (blocks_out c.self.inside.region) c.self.inside.next _ c.self.invariant.0 c.args.port _ _ (ap (λ (p : Port). p.todo.items) (rw c.deref.ensures.value at c.at.ensures)) (rw c.deref-2.ensures.value at c.first_unmarked.ensures)))

turns : (c : goal.After-mark) → Turns (key_of c.self.inside.region) c.self.inside.ports.items c.mark.new.entries.items (blocks_out c.self.inside.region) c.self.inside.next (vec_capacity c.mark.new.entries) (marked_first c.args.port c.args.mark (stocked (old (key_of c.self.inside.region) c.self.inside.ports.items c.self.inside.entries.items (blocks_out c.self.inside.region) c.self.inside.next _ c.self.invariant.0)))
turns c =
    mark_turns (key_of c.self.inside.region) c.self.inside.ports.items c.self.inside.entries.items (blocks_out c.self.inside.region) c.self.inside.next _ c.self.invariant.0 c.mark.new.entries.items _ c.args.port c.in-Some.number c.args.mark (sym c.in-Some.is ∙ (front_unmarked (key_of c.self.inside.region) c.self.inside.ports.items c.self.inside.entries.items (blocks_out c.self.inside.region) c.self.inside.next _ c.self.invariant.0 c.args.port _ _ (ap (λ (p : Port). p.todo.items) (rw c.deref.ensures.value at c.at.ensures)) (rw c.deref-2.ensures.value at c.first_unmarked.ensures)))
    c.mark.ensures.headers c.mark.ensures.kept (c.mark.ensures.keys (key_of c.self.inside.region) c.self.invariant.0.keys) c.mark.ensures.capacity

pub invariant_of-self : goal.invariant_of-self
invariant_of-self c = ((turns c).lawful, c.self.invariant.1)

pub returns-clause-some : goal.returns-clause-some
returns-clause-some c = rw (← c.self.view_is) (ap is_some (sym c.in-Some.is) ∙ some_unmarked (key_of c.self.inside.region) c.self.inside.ports.items c.self.inside.entries.items (blocks_out c.self.inside.region) c.self.inside.next _ c.self.invariant.0 c.args.port c.first_unmarked.result (front_unmarked (key_of c.self.inside.region) c.self.inside.ports.items c.self.inside.entries.items (blocks_out c.self.inside.region) c.self.inside.next _ c.self.invariant.0 c.args.port _ _ (ap (λ (p : Port). p.todo.items) (rw c.deref.ensures.value at c.at.ensures)) (rw c.deref-2.ensures.value at c.first_unmarked.ensures)))

pub returns-clause-stock : goal.returns-clause-stock
returns-clause-stock c = rw (← c.self.view_is) (turns c).is
