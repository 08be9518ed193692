use Rattle.std.proofs.Common.{sym, ◌∙◌, Option, subst}
use Rattle.il_machine.specs.declared.port.PortKey.{PortKey}
use Rattle.stock_laws.proofs.Keys.{same_key-sym}
use Rattle.port_stock.specs.Rings.{IsKnownBy}
use Rattle.port_stock.proofs.Finding.{known_port, no_peer, recounts_one, recounts_two, same_peer}
use Rattle.port_stock.proofs.ports.recount.Goals as goal

pub returns-in_default : goal.returns-in_default
returns-in_default c =
    recounts_one c.args.made_for.0 c.args.made_for.1 c.args.before c.args.after c.args.ports.now.items _ c.requires.before c.requires.after (no_peer c.args.made_for.0 c.args.made_for.1 c.in_default.is) c.recount_at.ensures

pub returns-then-is_same : goal.returns-then-is_same
returns-then-is_same c =
    recounts_one c.args.made_for.0 c.args.made_for.1 c.args.before c.args.after c.args.ports.now.items _ c.requires.before c.requires.after
    (same_peer c.args.made_for.0 c.in-Some.peer c.args.made_for.1 c.in-Some.is (sym c.is_same.ensures ∙ c.if-is_same.true)) c.recount_at.ensures

pub returns : goal.returns
returns c =
    recounts_two c.args.made_for.0 c.in-Some.peer c.args.before c.args.after c.args.ports.now.items _ _ (subst (λ (o : Option PortKey). IsKnownBy c.args.made_for.0 o c.args.before) c.in-Some.is c.requires.before)
    (subst (λ (o : Option PortKey). IsKnownBy c.args.made_for.0 o c.args.after) c.in-Some.is c.requires.after) (same_key-sym c.args.made_for.0 c.in-Some.peer ∙ (sym c.is_same.ensures ∙ c.if-is_same.false)) c.recount_at.ensures c.recount_at-2.ensures

pub recount_at-requires-clause-before : goal.recount_at-requires-clause-before
recount_at-requires-clause-before c = known_port c.args.made_for.0 c.args.made_for.1 c.args.before c.requires.before

pub recount_at-requires-clause-after : goal.recount_at-requires-clause-after
recount_at-requires-clause-after c = known_port c.args.made_for.0 c.args.made_for.1 c.args.after c.requires.after
