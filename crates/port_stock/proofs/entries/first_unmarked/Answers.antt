use Rattle.std.proofs.Common.{sym, ◌∙◌}
use Rattle.port_stock.specs.Entries.{headers_of}
use Rattle.port_stock.proofs.Looking.{unmarked_at, unmarked_on}
use Rattle.port_stock.proofs.entries.first_unmarked.Goals as goal

pub returns-then-has_unmarked : goal.returns-then-has_unmarked
returns-then-has_unmarked c =
    unmarked_at (headers_of c.args.entries.now) c.args.todo.now.items c.loop-place.place c.in-Some.number.now (sym c.in-Some.ensures) (sym c.has_unmarked.ensures ∙ c.if-has_unmarked.true) c.loop-place.invariant

pub loop-place-preserved : goal.loop-place-preserved
loop-place-preserved c =
    unmarked_on (headers_of c.args.entries.now) c.args.todo.now.items c.loop-place.place c.in-Some.number.now (sym c.in-Some.ensures) (sym c.has_unmarked.ensures ∙ c.if-has_unmarked.false) c.loop-place.invariant
