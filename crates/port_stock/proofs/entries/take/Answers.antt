use Rattle.std.proofs.Common.{◌≡◌, None, position, true, sym, ◌∙◌}
use Rattle.port_stock.specs.Kept.{is_waiting}
use Rattle.port_stock.proofs.Places.{At, at, is_numbered}
use Rattle.port_stock.proofs.Changing.{Leaves, leaves, leaves_kept, leaves_keys, leaves_own, taken_at, unreached, waits_kept}
use Rattle.port_stock.proofs.entries.take.Goals as goal

pub unreachable-requires : goal.unreachable-requires
unreachable-requires c =
    let e : position (is_numbered c.args.number) c.args.entries.now.items ≡ None = rw c.deref.ensures.value at (sym c.number_place.ensures.place ∙ c.in_default.is) in
    unreached c.args.number c.args.entries.now.items (λ r. is_waiting r.state.queue ≡ true) e c.requires.waits

pub take_header-requires-clause-there : goal.take_header-requires-clause-there
take_header-requires-clause-there c =
    let A = at c.args.number _ _ (rw c.deref.ensures.value at (sym c.number_place.ensures.place ∙ c.in-Some.is)) in
    waits_kept _ _ _ A c.requires.kept c.requires.waits

there : (c : goal.After-take_header) → At c.args.number c.in-Some.place c.args.entries.now.items
there c = at c.args.number _ _ (rw c.deref.ensures.value at (sym c.number_place.ensures.place ∙ c.in-Some.is))

left : (c : goal.After-take_header) → Leaves c.args.entries.now.items c.take_header.new.entries.items c.in-Some.place (there c).it c.take_header.result
left c = leaves _ _ _ _ _ (there c).there c.requires.kept c.take_header.ensures.header c.take_header.ensures.items

pub returns-clause-taken : goal.returns-clause-taken
returns-clause-taken c = taken_at _ _ _ _ _ (there c) (left c)

pub returns-clause-kept : goal.returns-clause-kept
returns-clause-kept c = leaves_kept _ _ _ _ _ c.requires.kept (left c)

pub returns-clause-keys : goal.returns-clause-keys
returns-clause-keys c = leaves_keys _ _ _ _ _ (left c)

pub returns-clause-own : goal.returns-clause-own
returns-clause-own c = leaves_own _ _ _ _ _ (there c).there (left c)
