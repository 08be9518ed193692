use Rattle.std.proofs.Common.{◌∙◌, sym, ap, subst, refl, suc, ◌∷◌, ◌≡◌, length, arith}
use Rattle.turnstile.specs.Passes.{opening_of}
use Rattle.turnstile.specs.Rows.{MayInRow, HasTickets, CalledFront, at_rest}
use Rattle.turnstile.proofs.Rowing.{front_none, front_more, tickets_after}
use Rattle.turnstile.proofs.turnstile.Turnstile.take_turns.Goals as goal

pub loop-ticket-init : goal.loop-ticket-init
loop-ticket-init g c = let r = c.requires.seat in record {
  seat = (refl, r.1, r.2, (refl, refl, refl));
  opening = refl;
  tickets = r.3;
  at = refl;
  may = c.requires.may;
  room = c.requires.room;
  capacities = (refl, refl);
  row = front_none g.V.Serve.legal g.V.Serve.may g.V.Serve.reaches (opening_of c.args.self.now) c.args.first (at_rest c.args.seat.now.me.0) c.args.seat.now.me.0 c.args.acts.now.items c.args.replies.now.items ((refl, refl, refl), refl, refl);
}

pub loop-ticket-preserved : goal.loop-ticket-preserved
loop-ticket-preserved g c =
    let i = c.loop-ticket.invariant in let e = c.take_turn-reply.ensures in let v = c.loop-ticket.seat.me.0 in let w = c.take_turn-reply.new.seat.me.0 in let reply = c.take_turn-reply.result in
    let first = opening_of c.args.self.now in let act = c.in-Some.act in let rest = c.pop_front.new.self.items in let may = g.V.Serve.may first in let start = c.args.seat.now.me.0 in
    let items : c.loop-ticket.acts.items ≡ act ∷ rest = c.in-Some.ensures.items in let shorter = ap length items in
    let has : HasTickets v c.loop-ticket.ticket (suc (length rest)) = subst (λ l. HasTickets v c.loop-ticket.ticket (length l)) items i.tickets in
    let asks : MayInRow may v.number v.mine (act ∷ rest) = subst (λ l. MayInRow may v.number v.mine l) items i.may in
    let front = subst (λ l. CalledFront g.V.Serve.legal g.V.Serve.may first c.args.first (at_rest start) c.args.acts.now.items l c.args.replies.now.items c.loop-ticket.replies.items v) items i.row in
    let at = i.at in let room = i.room in record {
      seat = (e.seat.0 ∙ i.seat.0, e.seat.1, e.seat.2, (e.seat.3.0 ∙ i.seat.3.0, e.seat.3.1 ∙ i.seat.3.1, e.seat.3.2 ∙ i.seat.3.2));
      opening = e.opening ∙ i.opening;
      tickets = tickets_after v w c.loop-ticket.ticket (length rest) has e.tickets.0 e.tickets.1;
      at = omega arith;
      may = subst (λ z. MayInRow may z.number z.mine rest) (sym e.turn.is_left) (asks.1 reply);
      room = let popped = c.in-Some.ensures.len in let pushed = c.push_back_reserved.ensures.len in let same = c.push_back_reserved.ensures.capacity in omega arith;
      capacities = (c.in-Some.ensures.capacity ∙ i.capacities.0, c.push_back_reserved.ensures.capacity ∙ i.capacities.1);
      row = subst (λ l. CalledFront g.V.Serve.legal g.V.Serve.may first c.args.first (at_rest start) c.args.acts.now.items rest c.args.replies.now.items l w) (sym c.push_back_reserved.ensures.items)
          (front_more g.V.Serve.legal g.V.Serve.may g.V.Serve.reaches first c.args.first (at_rest start) v w c.args.acts.now.items rest c.args.replies.now.items c.loop-ticket.replies.items act reply c.loop-ticket.ticket refl front (omega arith) (omega arith) e.turn e.seat.3);
    }
