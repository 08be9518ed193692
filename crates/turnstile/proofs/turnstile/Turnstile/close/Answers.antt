use Rattle.std.proofs.Common.{◌∙◌, sym, ap, subst}
use Rattle.std.proofs.lemmas.Option.{none-some}
use mathlib.Core.Option.{some-injective}
use Rattle.std.specs.Slots.{slots_items}
use Rattle.atomic_table.specs.Table.{Final, Seen}
use Rattle.turnstile.specs.Turns.{Ended, Kept}
use Rattle.turnstile.proofs.Basics.{some_is}
use Rattle.turnstile.proofs.Joining.{closes}
use Rattle.turnstile.proofs.turnstile.Turnstile.close.Goals as goal

pub unreachable-requires : goal.unreachable-requires
unreachable-requires g c = let r = c.requires.root in let e = closes _ _ _ _ _ _ _ _ _ r.0.2.0 r.0.2.1 r.0.2.2 r.1 c.requires.joined r.2 (subst (λ k. Final (Seen (Kept g.V.Serve.legal g.V.Serve.reaches g.V.Serve.may g.V.Serve.clear k) c.args.root.seat.id c.args.root.seat.me.0) (slots_items c.close_with-closed.result.words) (slots_items c.close_with-closed.result.slots)) (ap (λ t. t.shared.key) c.into_table-table.ensures)
    (subst (λ st. Final (Seen (Kept g.V.Serve.legal g.V.Serve.reaches g.V.Serve.may g.V.Serve.clear c.into_table-table.result.shared.key) st.id st.me.0) (slots_items c.close_with-closed.result.words) (slots_items c.close_with-closed.result.slots)) c.into_seat-seat.ensures c.close_with-closed.ensures.values.2)) in
    none-some e.0 (sym c.in-None.is ∙ some-injective _ _ (sym c.take-value.ensures.value ∙ e.1))

pub returns : goal.returns
returns g c = let r = c.requires.root in let e = closes _ _ _ _ _ _ _ _ _ r.0.2.0 r.0.2.1 r.0.2.2 r.1 c.requires.joined r.2 (subst (λ k. Final (Seen (Kept g.V.Serve.legal g.V.Serve.reaches g.V.Serve.may g.V.Serve.clear k) c.args.root.seat.id c.args.root.seat.me.0) (slots_items c.close_with-closed.result.words) (slots_items c.close_with-closed.result.slots)) (ap (λ t. t.shared.key) c.into_table-table.ensures)
    (subst (λ st. Final (Seen (Kept g.V.Serve.legal g.V.Serve.reaches g.V.Serve.may g.V.Serve.clear c.into_table-table.result.shared.key) st.id st.me.0) (slots_items c.close_with-closed.result.words) (slots_items c.close_with-closed.result.slots)) c.into_seat-seat.ensures c.close_with-closed.ensures.values.2)) in
    subst (Ended g.V.Serve.legal g.V.Serve.reaches g.V.Serve.may g.V.Serve.clear c.args.root.seat.me.0 c.args.self.table.shared.key)
    (some_is e.0 c.in-Some.value (sym (some-injective _ _ (sym c.take-value.ensures.value ∙ e.1)) ∙ c.in-Some.is)) e.2
