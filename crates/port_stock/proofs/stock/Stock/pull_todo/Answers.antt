use Rattle.std.proofs.Common.{vec_capacity, ℕ, List, Some, slice_get, sym, ◌∙◌, ap}
use Rattle.il_machine.specs.Headers.{in_todo}
use Rattle.il_machine.specs.Stock.{todo_pulled}
use Rattle.port_stock.specs.Blocks.{blocks_out, key_of}
use Rattle.port_stock.specs.Kept.{stocked}
use Rattle.port_stock.specs.Entries.{headers_of}
use Rattle.port_stock.proofs.Calls.{TakesFront}
use Rattle.port_stock.proofs.Reading.{view}
use Rattle.port_stock.proofs.Turning.{Turns, todo_is, old, port_there, pull_gives, pull_none_turns, pull_turns, pull_waits}
use Rattle.port_stock.proofs.stock.Stock.pull_todo.Goals as goal

pub pull-requires-clause-there : goal.pull-requires-clause-there
pull-requires-clause-there c = port_there (key_of c.self.inside.region) c.self.inside.ports.items c.self.inside.entries.items (blocks_out c.self.inside.region) c.self.inside.next _ c.self.invariant.0 c.args.port (rw c.self.view_is c.requires)

pub pull-requires-clause-differ : goal.pull-requires-clause-differ
pull-requires-clause-differ c = c.self.invariant.0.differ

pub invariant_of-self : goal.invariant_of-self
invariant_of-self c = ((pull_none_turns (key_of c.self.inside.region) c.self.inside.ports.items c.self.inside.entries.items (blocks_out c.self.inside.region) c.self.inside.next _ c.self.invariant.0 c.pull.new.ports.items c.args.port (sym c.in_default.is ∙ c.pull.ensures.front) c.pull.ensures.ports).lawful, c.self.invariant.1)

pub returns-in_default-clause-front : goal.returns-in_default-clause-front
returns-in_default-clause-front c = rw (← c.self.view_is) (sym c.in_default.is ∙ (c.pull.ensures.front ∙ ap (λ (ns : List ℕ). slice_get ns 0) (todo_is (key_of c.self.inside.region) c.self.inside.ports.items c.self.inside.entries.items (blocks_out c.self.inside.region) c.self.inside.next _ c.self.invariant.0 c.args.port)))

pub returns-in_default-clause-stock : goal.returns-in_default-clause-stock
returns-in_default-clause-stock c = rw (← c.self.view_is) (pull_none_turns (key_of c.self.inside.region) c.self.inside.ports.items c.self.inside.entries.items (blocks_out c.self.inside.region) c.self.inside.next _ c.self.invariant.0 c.pull.new.ports.items c.args.port (sym c.in_default.is ∙ c.pull.ensures.front) c.pull.ensures.ports).is

pub take-requires-clause-waits : goal.take-requires-clause-waits
take-requires-clause-waits c = pull_waits (key_of c.self.inside.region) c.self.inside.ports.items c.self.inside.entries.items (blocks_out c.self.inside.region) c.self.inside.next _ c.self.invariant.0 c.args.port c.in-Some.number (sym c.in-Some.is ∙ c.pull.ensures.front)

turns : (c : goal.After-take) → Turns (key_of c.self.inside.region) c.pull.new.ports.items c.take.new.entries.items (blocks_out c.self.inside.region) c.self.inside.next (vec_capacity c.take.new.entries) (todo_pulled c.args.port (stocked (old (key_of c.self.inside.region) c.self.inside.ports.items c.self.inside.entries.items (blocks_out c.self.inside.region) c.self.inside.next _ c.self.invariant.0)))
turns c =
    pull_turns (key_of c.self.inside.region) c.self.inside.ports.items c.self.inside.entries.items (blocks_out c.self.inside.region) c.self.inside.next _ c.self.invariant.0 c.pull.new.ports.items c.take.new.entries.items _ c.args.port c.in-Some.number c.take.result (sym c.in-Some.is ∙ c.pull.ensures.front) c.take.ensures.taken c.take.ensures.kept
    (c.take.ensures.keys (key_of c.self.inside.region) c.self.invariant.0.keys) c.pull.ensures.ports c.take.ensures.capacity

takes : (c : goal.After-take) → TakesFront (in_todo c.args.port) ((stocked (old (key_of c.self.inside.region) c.self.inside.ports.items c.self.inside.entries.items (blocks_out c.self.inside.region) c.self.inside.next _ c.self.invariant.0)).headers.todo c.args.port) (stocked (old (key_of c.self.inside.region) c.self.inside.ports.items c.self.inside.entries.items (blocks_out c.self.inside.region) c.self.inside.next _ c.self.invariant.0)) (stocked (view (key_of c.self.inside.region) c.pull.new.ports.items (headers_of c.take.new.entries.items) c.self.inside.next)) (Some c.take.result)
takes c =
    pull_gives (key_of c.self.inside.region) c.self.inside.ports.items c.self.inside.entries.items (blocks_out c.self.inside.region) c.self.inside.next _ c.self.invariant.0 c.pull.new.ports.items c.take.new.entries.items _ c.args.port c.in-Some.number c.take.result (sym c.in-Some.is ∙ c.pull.ensures.front) c.take.ensures.taken (c.take.ensures.own (key_of c.self.inside.region) c.self.invariant.0.keys) (turns c)

pub invariant_of-self-2 : goal.invariant_of-self-2
invariant_of-self-2 c = ((turns c).lawful, c.self.invariant.1)

pub returns-clause-front : goal.returns-clause-front
returns-clause-front c = rw (← c.self.view_is) (takes c).front

pub returns-clause-was : goal.returns-clause-was
returns-clause-was c = rw (← c.self.view_is) (takes c).was

pub returns-clause-outside : goal.returns-clause-outside
returns-clause-outside c = (takes c).outside

pub returns-clause-stock : goal.returns-clause-stock
returns-clause-stock c = rw (← c.self.view_is) (turns c).is
