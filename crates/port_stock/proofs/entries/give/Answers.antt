use Rattle.std.proofs.Common.{◌≡◌, None, position, sym, ◌∙◌, ap}
use Rattle.il_machine.specs.declared.header.Queue.TheVariants.{Out}
use Rattle.port_stock.proofs.Places.{at, is_numbered}
use Rattle.port_stock.specs.declared.entry.Entry.{Entry}
use Rattle.port_stock.proofs.Changing.{before_is, same_entry, unreached, give_headers}
use Rattle.port_stock.proofs.entries.give.Goals as goal

pub unreachable-requires : goal.unreachable-requires
unreachable-requires c =
    let e : position (is_numbered c.args.number) c.args.entries.now.items ≡ None = rw c.deref.ensures.value at (sym c.number_place.ensures.place ∙ c.in_default.is) in
    unreached c.args.number c.args.entries.now.items (λ r. r.state.queue ≡ Out) e c.requires.outside

pub returns-clause-headers : goal.returns-clause-headers
returns-clause-headers c =
    let A = at c.args.number _ _ (rw c.deref.ensures.value at (sym c.number_place.ensures.place ∙ c.in-Some.is)) in
    give_headers _ _ _ _ _ A c.index_mut-entry.ensures.value c.requires.outside

pub returns-clause-before : goal.returns-clause-before
returns-clause-before c =
    let A = at c.args.number _ _ (rw c.deref.ensures.value at (sym c.number_place.ensures.place ∙ c.in-Some.is)) in
    before_is _ _ _ _ A (ap (λ (e : Entry). e.state) (same_entry _ _ _ _ A c.index_mut-entry.ensures.value))
