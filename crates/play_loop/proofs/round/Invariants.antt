use Rattle.std.proofs.Common.{◌≡◌}
use Rattle.play_loop.specs.Turns.{RoundsOf, SomePlay}
use Rattle.play_loop.proofs.round.Given as goal

-- the round stands so, after the turns of the components below c
abbrev pub invariant-loop-c : goal.invariant-loop-c
invariant-loop-c g l = record {
  layout : g.P.TakeTurns.layout l.player ≡ g.P.TakeTurns.layout l.fn.player;
  round : RoundsOf (g.P.TakeTurns.layout l.fn.player) (g.P.TakeTurns.Plays l.fn.player) (g.P.TakeTurns.Plays l.player) l.did l.c 0;
  leads : g.P.TakeTurns.Leads l.fn.player l.player;
  some : SomePlay (g.P.TakeTurns.Plays l.player);
}

abbrev pub invariant-loop-l : goal.invariant-loop-l
invariant-loop-l g l = record {
  layout : g.P.TakeTurns.layout l.player ≡ g.P.TakeTurns.layout l.fn.player;
  round : RoundsOf (g.P.TakeTurns.layout l.fn.player) (g.P.TakeTurns.Plays l.fn.player) (g.P.TakeTurns.Plays l.player) l.did l.components l.l;
  leads : g.P.TakeTurns.Leads l.fn.player l.player;
  some : SomePlay (g.P.TakeTurns.Plays l.player);
}
