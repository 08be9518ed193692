use Rattle.std.proofs.Common.{◌∙◌, subst}
use Rattle.play_model.specs.Play.{Layout}
use Rattle.play_loop.specs.Turns.{IsOfComponent, IsOfLink, TurnsOf}
use Rattle.play_loop.proofs.Rounds.{round_begins, round_component, round_link}
use Rattle.play_loop.proofs.round.Goals as goal

pub components-components-requires : goal.components-components-requires
components-components-requires g c = let T = c.send-did.ensures.turned c.requires.0 c.requires.1 in (T.0, T.1)

pub loop-c-init : goal.loop-c-init
loop-c-init g c =
    let w : Layout = g.P.TakeTurns.layout c.args.player.now in
    record {
      layout = c.send-did.ensures.layout;
      leads = c.send-did.ensures.leads;
      round = λ p s G. let T = c.send-did.ensures.turned p s in (T.0, T.1, round_begins w p G T.0 c.send-did.result T.2);
      some = let T = c.send-did.ensures.turned c.requires.0 c.requires.1 in (T.0, T.1);
    }

pub loop-c-preserved : goal.loop-c-preserved
loop-c-preserved g c =
    let w : Layout = g.P.TakeTurns.layout c.args.player.now in
    let turns = subst (λ (s : Layout). TurnsOf s (g.P.TakeTurns.Plays c.loop-c.player) (g.P.TakeTurns.Plays c.component_turn.new.self) c.in_ok-acted.acted (IsOfComponent s c.loop-c.c)) c.loop-c.invariant.layout c.in_ok-acted.ensures.turned in
    record {
      layout = c.component_turn.ensures.layout ∙ c.loop-c.invariant.layout;
      leads = g.met.P.TakeTurns.leads_on c.args.player.now c.loop-c.player c.component_turn.new.self c.loop-c.invariant.leads c.in_ok-acted.ensures.leads;
      round = λ p s G.
          let R = c.loop-c.invariant.round p s G in
          let T = turns R.0 R.1 in
          (T.0, T.1, round_component w p R.0 T.0 c.loop-c.did c.in_ok-acted.acted c.loop-c.c R.2 T.2);
      some = let T = turns c.loop-c.invariant.some.0 c.loop-c.invariant.some.1 in (T.0, T.1);
    }

pub loop-l-preserved : goal.loop-l-preserved
loop-l-preserved g c =
    let w : Layout = g.P.TakeTurns.layout c.args.player.now in
    let turns = subst (λ (s : Layout). TurnsOf s (g.P.TakeTurns.Plays c.loop-l.player) (g.P.TakeTurns.Plays c.link_turn-acted.new.self) c.link_turn-acted.result (IsOfLink c.loop-l.l)) c.loop-l.invariant.layout c.link_turn-acted.ensures.turned in
    record {
      layout = c.link_turn-acted.ensures.layout ∙ c.loop-l.invariant.layout;
      leads = g.met.P.TakeTurns.leads_on c.args.player.now c.loop-l.player c.link_turn-acted.new.self c.loop-l.invariant.leads c.link_turn-acted.ensures.leads;
      round = λ p s G.
          let R = c.loop-l.invariant.round p s G in
          let T = turns R.0 R.1 in
          (T.0, T.1, round_link w p R.0 T.0 c.loop-l.did c.link_turn-acted.result c.components-components.result c.loop-l.l R.2 T.2);
      some = let T = turns c.loop-l.invariant.some.0 c.loop-l.invariant.some.1 in (T.0, T.1);
    }
