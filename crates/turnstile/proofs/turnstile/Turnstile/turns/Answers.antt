use Rattle.std.proofs.Common.{subst}
use Rattle.turnstile.specs.Passes.{TicketIs, view}
use Rattle.turnstile.proofs.Rowing.{front_drawn}
use Rattle.turnstile.proofs.turnstile.Turnstile.turns.Goals as goal

pub returns-then-not-is_empty-clause-row : goal.returns-then-not-is_empty-clause-row
returns-then-not-is_empty-clause-row g c =
    let none = subst (λ b. TicketIs b (view c.args.pass.now).ticket) c.if-pass.false c.requires.pass.4 in
    front_drawn g.V.Serve.legal g.V.Serve.may g.V.Serve.reaches _ _ c.len.result (view c.args.pass.now) _ _ _ _ _ _ _ none c.draw-place.ensures.1 c.take_turns.ensures.row

pub returns-else-not-is_empty-clause-row : goal.returns-else-not-is_empty-clause-row
returns-else-not-is_empty-clause-row g c =
    let none = subst (λ b. TicketIs b (view c.args.pass.now).ticket) c.if-pass.false c.requires.pass.4 in
    front_drawn g.V.Serve.legal g.V.Serve.may g.V.Serve.reaches _ _ c.len.result (view c.args.pass.now) _ _ _ _ _ _ _ none c.draw-place.ensures.1 c.take_turns.ensures.row
