use Rattle.std.proofs.Common.{◌≡◌, None, position, refl, sym, ◌∙◌, ap}
use Rattle.il_machine.specs.declared.header.Queue.TheVariants.{Out}
use Rattle.port_stock.specs.Conditions.{IsHeaderOf}
use Rattle.port_stock.specs.declared.entry.Entry.{Entry}
use Rattle.port_stock.proofs.Places.{At, at, is_numbered}
use Rattle.port_stock.proofs.Changing.{before_is, same_entry, unreached, unkept_entry, put_headers, put_kept, put_keys}
use Rattle.port_stock.proofs.entries.put.Goals as goal

pub unreachable-requires : goal.unreachable-requires
unreachable-requires c =
    let e : position (is_numbered c.args.header.held.number) c.args.entries.now.items ≡ None = rw (c.deref.ensures.value, c.id.ensures) at (sym c.number_place.ensures.place ∙ c.in_default.is) in
    unreached c.args.header.held.number c.args.entries.now.items (λ r. (r.state.queue ≡ Out) × IsHeaderOf r.state c.args.header) e c.requires.outside

pub put_in-requires : goal.put_in-requires
put_in-requires c =
    let A = at c.args.header.held.number _ _ (rw (c.deref.ensures.value, c.id.ensures) at (sym c.number_place.ensures.place ∙ c.in-Some.is)) in
    unkept_entry _ _ _ (λ r. (r.state.queue ≡ Out) × IsHeaderOf r.state c.args.header) _ A c.index_mut-entry.ensures.value c.requires.kept (λ r h. h.0) c.requires.outside

there : (c : goal.After-entries-1) → At c.args.header.held.number c.in-Some.place c.args.entries.now.items
there c = at c.args.header.held.number _ _ (rw (c.deref.ensures.value, c.id.ensures) at (sym c.number_place.ensures.place ∙ c.in-Some.is))

same : (c : goal.After-entries-1) → c.index_mut-entry.result.now ≡ (there c).it
same c = same_entry _ _ _ _ (there c) c.index_mut-entry.ensures.value

pub returns-clause-before : goal.returns-clause-before
returns-clause-before c = before_is _ _ _ _ (there c) (c.put_in.ensures.before ∙ ap (λ (e : Entry). e.state) (same c))

pub returns-clause-headers : goal.returns-clause-headers
returns-clause-headers c = put_headers _ _ _ c.args.key c.args.spot c.args.header _ _ (there c) (same c) c.put_in.ensures.entry

pub returns-clause-kept : goal.returns-clause-kept
returns-clause-kept c = put_kept _ _ _ c.args.key c.args.spot c.args.header _ _ (there c) (same c) c.put_in.ensures.entry refl c.requires.outside c.requires.kept

pub returns-clause-keys : goal.returns-clause-keys
returns-clause-keys c = put_keys _ _ c.args.key c.args.spot c.args.header c.index_mut-entry.result.now _ c.put_in.ensures.entry
