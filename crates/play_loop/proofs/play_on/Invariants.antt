use Rattle.std.proofs.Common.{◌≡◌, ◌-◌}
use Rattle.play_loop.specs.Turns.{OnWayFrom}
use Rattle.play_loop.proofs.play_on.Given as goal

abbrev pub invariant-loop-round : goal.invariant-loop-round
invariant-loop-round g l = record {
  layout : g.P.TakeTurns.layout l.player ≡ g.P.TakeTurns.layout l.fn.player;
  leads : g.P.TakeTurns.Leads l.fn.player l.player;
  way : OnWayFrom (g.P.TakeTurns.layout l.fn.player) (g.P.TakeTurns.Plays l.fn.player) (g.P.TakeTurns.Plays l.player) l._round;
}

abbrev pub decreases-loop-round : goal.decreases-loop-round
decreases-loop-round g l = 340282366920938463463374607431768211455 - l._round
