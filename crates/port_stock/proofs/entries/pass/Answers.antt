use Rattle.std.proofs.Common.{◌≡◌, None, position, true, sym, ◌∙◌, ap}
use Rattle.port_stock.specs.Kept.{is_waiting}
use Rattle.port_stock.specs.declared.entry.Entry.{Entry}
use Rattle.port_stock.proofs.Places.{at, is_numbered}
use Rattle.port_stock.proofs.Changing.{before_is, same_entry, unreached}
use Rattle.port_stock.proofs.Passing.{pass_headers, pass_kept, pass_keys}
use Rattle.port_stock.proofs.entries.pass.Goals as goal

pub unreachable-requires : goal.unreachable-requires
unreachable-requires c =
    let e : position (is_numbered c.args.number) c.args.entries.now.items ≡ None = rw c.deref.ensures.value at (sym c.number_place.ensures.place ∙ c.in_default.is) in
    unreached c.args.number c.args.entries.now.items (λ r. is_waiting r.state.queue ≡ true) e c.requires.waits

pub returns-clause-before : goal.returns-clause-before
returns-clause-before c =
    let A = at c.args.number _ _ (rw c.deref.ensures.value at (sym c.number_place.ensures.place ∙ c.in-Some.is)) in
    before_is _ _ _ _ A (ap (λ (e : Entry). e.state) (same_entry _ _ _ _ A c.index_mut-entry.ensures.value))

pub returns-clause-headers : goal.returns-clause-headers
returns-clause-headers c =
    let A = at c.args.number _ _ (rw c.deref.ensures.value at (sym c.number_place.ensures.place ∙ c.in-Some.is)) in
    rw c.put_state-entry.ensures (pass_headers _ _ _ c.args.key c.args.spot _ A (same_entry _ _ _ _ A c.index_mut-entry.ensures.value))

pub returns-clause-kept : goal.returns-clause-kept
returns-clause-kept c =
    let A = at c.args.number _ _ (rw c.deref.ensures.value at (sym c.number_place.ensures.place ∙ c.in-Some.is)) in
    rw c.put_state-entry.ensures (pass_kept _ _ _ c.args.key c.args.spot _ A (same_entry _ _ _ _ A c.index_mut-entry.ensures.value) c.requires.kept c.requires.waits)

pub returns-clause-keys : goal.returns-clause-keys
returns-clause-keys c = λ own E.
    let A = at c.args.number _ _ (rw c.deref.ensures.value at (sym c.number_place.ensures.place ∙ c.in-Some.is)) in
    rw c.put_state-entry.ensures (pass_keys _ _ _ c.args.key c.args.spot _ A (same_entry _ _ _ _ A c.index_mut-entry.ensures.value) own E)
