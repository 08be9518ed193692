use Rattle.std.proofs.Common.{◌≡◌, ◌+◌, ◌≤◌, [], length}
use Rattle.std.specs.VecDeque.{deque_len, deque_capacity}
use Rattle.turnstile.specs.Passes.{IsIdle, IsSamePass, opening_of}
use Rattle.turnstile.specs.Rows.{MayInRow, HasTickets, CalledFront, at_rest}
use Rattle.turnstile.proofs.turnstile.Turnstile.take_turns.Given as goal

abbrev pub invariant-loop-ticket : goal.invariant-loop-ticket
invariant-loop-ticket g l = record {
  seat : (l.seat.table_id ≡ l.initial.seat.table_id) × (l.seat.me.1 ≡ []) × IsIdle l.seat.me.0 × IsSamePass l.initial.seat.me.0 l.seat.me.0;
  opening : l.seat.me.0.opening ≡ l.initial.seat.me.0.opening;
  tickets : HasTickets l.seat.me.0 l.ticket (length l.acts.items);
  at : l.ticket + length l.acts.items ≡ l.first + length l.initial.acts.items;
  may : MayInRow (g.V.Serve.may (opening_of l.self)) l.seat.me.0.number l.seat.me.0.mine l.acts.items;
  room : deque_len l.replies + deque_len l.acts ≤ deque_capacity l.replies;
  capacities : (deque_capacity l.acts ≡ deque_capacity l.initial.acts) × (deque_capacity l.replies ≡ deque_capacity l.initial.replies);
  row : CalledFront g.V.Serve.legal g.V.Serve.may (opening_of l.self) l.first (at_rest l.initial.seat.me.0) l.initial.acts.items l.acts.items l.initial.replies.items l.replies.items l.seat.me.0;
}

abbrev pub decreases-loop-ticket : goal.decreases-loop-ticket
decreases-loop-ticket g l = length l.acts.items
