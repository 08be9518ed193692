use Rattle.std.proofs.Common.{◌≡◌, false, Some, Option, sym, ◌∙◌, refl, subst}
use Rattle.il_machine.specs.declared.port.PortKey.{PortKey}
use Rattle.il_machine.specs.declared.header.HeaderState.{HeaderState}
use Rattle.stock_laws.proofs.Keys.{same_key-sym}
use Rattle.il_machine.specs.Headers.{same_key}
use Rattle.port_stock.specs.Rings.{HasCounted, IsKnownBy}
use Rattle.port_stock.proofs.Finding.{no_peer, recounts_one, recounts_two, same_peer}
use Rattle.port_stock.proofs.ports.reown.Goals as goal

pub returns-in_default : goal.returns-in_default
returns-in_default c =
    recounts_one c.args.state.now.port c.args.state.now.peer _ _ c.args.ports.now.items _ (refl, refl, c.requires.before) (refl, refl, c.requires.after) (no_peer c.args.state.now.port c.args.state.now.peer c.in_default.is) c.reown_at.ensures

pub returns-then-is_same : goal.returns-then-is_same
returns-then-is_same c =
    recounts_one c.args.state.now.port c.args.state.now.peer _ _ c.args.ports.now.items _ (refl, refl, c.requires.before) (refl, refl, c.requires.after)
    (same_peer c.args.state.now.port c.in-Some.peer c.args.state.now.peer c.in-Some.is (sym c.is_same.ensures ∙ c.if-is_same.true)) c.reown_at.ensures

pub returns : goal.returns
returns c =
    let s : HeaderState = c.args.state.now in
    let t : HeaderState = record s { owner = c.args.owner } in
    recounts_two s.port c.in-Some.peer (Some s) (Some t) c.args.ports.now.items _ _ (subst (λ (o : Option PortKey). IsKnownBy s.port o (Some s)) c.in-Some.is (refl, refl, c.requires.before))
    (subst (λ (o : Option PortKey). IsKnownBy s.port o (Some t)) c.in-Some.is (refl, refl, c.requires.after)) (same_key-sym s.port c.in-Some.peer ∙ (sym c.is_same.ensures ∙ c.if-is_same.false)) c.reown_at.ensures c.reown_at-2.ensures

pub reown_at-requires-2-clause-counted : goal.reown_at-requires-2-clause-counted
reown_at-requires-2-clause-counted c =
    let apart : same_key c.args.state.now.port c.in-Some.peer ≡ false = same_key-sym c.args.state.now.port c.in-Some.peer ∙ (sym c.is_same.ensures ∙ c.if-is_same.false) in
    subst (HasCounted (Some c.args.state.now)) (sym (c.reown_at.ensures.at c.in-Some.peer ∙ rw apart refl)) (c.requires.counted c.in-Some.peer)
