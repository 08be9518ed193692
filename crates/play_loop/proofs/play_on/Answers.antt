use Rattle.std.proofs.Common.{◌∙◌, Bool, sym, subst}
use Rattle.play_model.specs.Play.{Layout}
use Rattle.play_model.specs.Reached.{IsOver}
use Rattle.play_loop.specs.Turns.{IsRound, RoundsOf}
use Rattle.play_model.proofs.Queues.{both}
use Rattle.play_loop.proofs.Rounds.{round_acts, way_begins, way_more}
use Rattle.play_loop.proofs.play_on.Goals as goal

pub loop-round-init : goal.loop-round-init
loop-round-init g c = record {
  layout = λ i. g.P.TakeTurns.layout c.args.player.now;
  leads = g.met.P.TakeTurns.leads_to_itself c.args.player.now;
  way = λ p s G. (p, s, way_begins (g.P.TakeTurns.layout c.args.player.now) p G);
}

pub is_over-requires : goal.is_over-requires
is_over-requires g c = let W = c.loop-round.invariant.way c.requires.play c.requires.stands c.requires.going in (W.0, W.1)

pub returns-then-is_over : goal.returns-then-is_over
returns-then-is_over g c =
    let same = c.loop-round.invariant.layout in
    record {
      layout = same;
      over = λ p s G.
          let W = c.loop-round.invariant.way p s G in
          (W.0, W.1, record { reached = ((W.2).going).reached; ran = (W.2).ran; over = subst (λ (s : Layout). IsOver s W.0) same (c.is_over.ensures.yes c.if-is_over.true W.0 W.1) });
      all = λ p s. c.is_over.ensures.yes c.if-is_over.true p s;
      leads = c.loop-round.invariant.leads;
      failed = tt;
    }

pub round-requires : goal.round-requires
round-requires g c = let W = c.loop-round.invariant.way c.requires.play c.requires.stands c.requires.going in (W.0, W.1)

pub unreachable-requires : goal.unreachable-requires
unreachable-requires g c =
    let w : Layout = g.P.TakeTurns.layout c.args.player.now in
    let same = c.loop-round.invariant.layout in
    let W = c.loop-round.invariant.way c.requires.play c.requires.stands c.requires.going in
    let rounds = subst (λ (s : Layout). RoundsOf s (g.P.TakeTurns.Plays c.loop-round.player) (g.P.TakeTurns.Plays c.round.new.player) c.in_ok-round.field-0 s.network.components s.network.links) same c.in_ok-round.ensures.round in
    let R = rounds W.0 W.1 (W.2).going in
    let going : IsOver w W.0 → ⊥ = λ over. c.is_over.ensures.nope c.if-is_over.false W.0 W.1 (subst (λ (s : Layout). IsOver s W.0) (sym same) over) in
    both c.in_ok-round.field-0 (round_acts w W.0 R.0 c.in_ok-round.field-0 (W.2).going R.2 going) c.if-not-branch.true

pub loop-round-preserved : goal.loop-round-preserved
loop-round-preserved g c =
    let w : Layout = g.P.TakeTurns.layout c.args.player.now in
    let same = c.loop-round.invariant.layout in
    let rounds = subst (λ (s : Layout). RoundsOf s (g.P.TakeTurns.Plays c.loop-round.player) (g.P.TakeTurns.Plays c.round.new.player) c.in_ok-round.field-0 s.network.components s.network.links) same c.in_ok-round.ensures.round in
    record {
      layout = c.round.ensures.layout ∙ same;
      leads = g.met.P.TakeTurns.leads_on c.args.player.now c.loop-round.player c.round.new.player c.loop-round.invariant.leads c.in_ok-round.ensures.leads;
      way = λ p s G.
          let W = c.loop-round.invariant.way p s G in
          let R = rounds W.0 W.1 (W.2).going in
          (R.0, R.1, way_more w p W.0 R.0 c.loop-round._round w.network.components w.network.links W.2 (subst (λ (did : Bool). IsRound w W.0 R.0 did w.network.components w.network.links) c.if-not-branch.false R.2));
    }
