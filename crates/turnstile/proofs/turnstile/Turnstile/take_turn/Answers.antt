use Rattle.turnstile.proofs.Turning.{had_turn}
use Rattle.turnstile.proofs.turnstile.Turnstile.take_turn.Goals as goal

pub returns-clause-turn : goal.returns-clause-turn
returns-clause-turn g c = had_turn g.V.Serve.legal g.V.Serve.may g.V.Serve.reaches _ c.args.seat.now.me _ _ c.leave.new.seat.me c.args.act c.args.ticket c.serve-reply.result c.requires.opening c.enter.ensures.turn c.serve-reply.ensures.served c.leave.ensures.left c.requires.may
