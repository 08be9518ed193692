use Rattle.std.proofs.Common.{◌≡◌, None, position, sym, ◌∙◌, ap}
use Rattle.il_machine.specs.declared.header.Queue.TheVariants.{Out}
use Rattle.port_stock.specs.Entries.{headers_of}
use Rattle.port_stock.proofs.Places.{at, is_numbered}
use Rattle.port_stock.specs.declared.entry.Entry.{Entry}
use Rattle.port_stock.proofs.Changing.{before_is, if_there, unreached, unkept_at}
use Rattle.port_stock.proofs.entries.remove.Goals as goal

pub unreachable-requires : goal.unreachable-requires
unreachable-requires c =
    let e : position (is_numbered c.args.number) c.args.entries.now.items ≡ None = rw c.deref.ensures.value at (sym c.number_place.ensures.place ∙ c.in_default.is) in
    unreached c.args.number c.args.entries.now.items (λ r. r.state.queue ≡ Out) e c.requires.outside

pub take_entry-requires-clause-unkept : goal.take_entry-requires-clause-unkept
take_entry-requires-clause-unkept c =
    let A = at _ _ _ (rw c.deref.ensures.value at (sym c.number_place.ensures.place ∙ c.in-Some.is)) in
    unkept_at _ _ _ (λ r. r.state.queue ≡ Out) A c.requires.kept (λ r h. h) c.requires.outside

pub returns-clause-headers : goal.returns-clause-headers
returns-clause-headers c =
    let A = at c.args.number _ _ (rw c.deref.ensures.value at (sym c.number_place.ensures.place ∙ c.in-Some.is)) in
    ap headers_of c.take_entry.ensures.items ∙ A.stands.without

pub returns-clause-before : goal.returns-clause-before
returns-clause-before c =
    let A = at c.args.number _ _ (rw c.deref.ensures.value at (sym c.number_place.ensures.place ∙ c.in-Some.is)) in
    before_is _ _ _ _ A (if_there (λ (e : Entry). c.take_entry.result ≡ e.state) _ A.it A.there c.take_entry.ensures.state)
