use Rattle.std.proofs.Common.{◌≡◌, None, Some, position, true, sym, ◌∙◌, ap}
use Rattle.port_stock.specs.Kept.{is_waiting}
use Rattle.port_stock.proofs.Places.{At, at, is_numbered}
use Rattle.port_stock.proofs.Changing.{same_entry, unreached}
use Rattle.port_stock.proofs.Looking.{mark_headers, mark_each, mark_keys}
use Rattle.port_stock.proofs.entries.mark.Goals as goal

pub unreachable-requires : goal.unreachable-requires
unreachable-requires c =
    let e : position (is_numbered c.args.number) c.args.entries.now.items ≡ None = rw c.deref.ensures.value at (sym c.number_place.ensures.place ∙ c.in_default.is) in
    unreached c.args.number c.args.entries.now.items (λ r. is_waiting r.state.queue ≡ true) e c.requires.waits

there : (c : goal.After-entries-1) → At c.args.number c.in-Some.place c.args.entries.now.items
there c = at c.args.number _ _ (rw c.deref.ensures.value at (sym c.number_place.ensures.place ∙ c.in-Some.is))

same : (c : goal.After-entries-1) → c.index_mut-entry.result.now ≡ (there c).it
same c = same_entry _ _ _ _ (there c) c.index_mut-entry.ensures.value

pub returns-clause-headers : goal.returns-clause-headers
returns-clause-headers c = mark_headers _ _ c.args.mark _ _ _ (there c) c.requires.kept c.requires.waits (same c) c.mark_kept.ensures

pub returns-clause-kept : goal.returns-clause-kept
returns-clause-kept c = mark_each c.args.mark c.in-Some.place c.args.entries.now.items _ _ _ c.requires.kept (there c).there (same c) c.mark_kept.ensures

pub returns-clause-keys : goal.returns-clause-keys
returns-clause-keys c = mark_keys c.args.mark c.in-Some.place c.args.entries.now.items _ _ ((there c).there ∙ ap Some (sym (same c))) c.mark_kept.ensures
