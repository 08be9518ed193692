use Rattle.std.proofs.Common.{arith, refl, subst}
use Rattle.turnstile.specs.Passes.{TicketIs, HadTurn, view, opening_of}
use Rattle.turnstile.proofs.Turning.{called}
use Rattle.turnstile.proofs.turnstile.Turnstile.turn.Goals as goal

pub returns-clause-ok : goal.returns-clause-ok
returns-clause-ok g c =
    let none = subst (λ b. TicketIs b (view c.args.pass.now).ticket) c.if-pass.false c.requires.pass.4 in
    let turn = subst (λ m. HadTurn g.V.Serve.legal g.V.Serve.may (opening_of c.args.self.now) m.0 c.args.act c.draw-ticket.result c.take_turn-reply.result c.take_turn-reply.new.seat.me.0) c.draw-ticket.ensures.1 c.take_turn-reply.ensures.turn in
    called g.V.Serve.legal g.V.Serve.may g.V.Serve.reaches _ (view c.args.pass.now) _ c.take_turn-reply.new.seat.me.0 c.take_turn-reply.new.seat.me.0 c.args.act c.draw-ticket.result c.take_turn-reply.result none ((refl, refl, refl), refl, refl) turn (omega arith) refl refl
