use Rattle.std.proofs.Common.{rules, ◌≡◌, ◌+◌, ◌<◌, List, [], ◌∷◌, ◌++◌, Option, length, ap, sym, subst, ◌∙◌, arith}
use Rattle.play_log.specs.Places.{PassLogValue}
use Rattle.graph_acts.specs.Holding.{Clear}
use Rattle.graph_acts.specs.Plain.{sight_of}
use Rattle.board.specs.Boards.{IsOf, own_calls, pass_view}
use Rattle.board.specs.Rows.{acts, replies}
use Rattle.play_worker.specs.declared.failure.Failure.{Failure}
use Rattle.play_worker.specs.Failing.{worse}
use Rattle.play_workers.specs.declared.hand.Hand.{Hand}
use Rattle.play_workers.specs.Wholes.{Gathers}
use Rattle.play_workers.proofs.Joining.{first_left, gathers_on}
use Rattle.play_workers.proofs.meeting.meet_all.Goals as goal

pub meet-requires-clause-pass : goal.meet-requires-clause-pass
meet-requires-clause-pass g c =
    let counts = g.G.Gate.counts in
    let see = sight_of g.C.Client g.S.Source g.K.Sink in
    let b = c.args.board.now in
    let lt : 0 < length c.loop-hands.hands.items = search rules in
    let w = c.into_worker-worker.result in
    let pass : c.into_parts-pass.result.0 ≡ w.book.pass = c.into_parts-pass.ensures.0 ∙ ap (λ k. k.pass) c.into_parts-book.ensures.0 in
    let is = (first_left counts see b c.args._seats.now c.loop-hands.root c.loop-hands.hands.items c.remove.result w c.loop-hands.pages.items c.loop-hands.gates.items c.loop-hands.worst c.loop-hands.invariant.0 lt c.remove.ensures.value c.into_worker-worker.ensures).0 in
    subst (λ p. IsOf b p × Clear see (own_calls p)) (sym pass) (is.book.pass, is.holds)

pub end-requires : goal.end-requires
end-requires g c =
    let counts = g.G.Gate.counts in
    let see = sight_of g.C.Client g.S.Source g.K.Sink in
    let lt : 0 < length c.loop-hands.hands.items = search rules in
    let w = c.into_worker-worker.result in
    let row = c.into_parts-pass.ensures.2 ∙ ap (λ k. k.row) c.into_parts-book.ensures.0 in
    let is = (first_left counts see c.args.board.now c.args._seats.now c.loop-hands.root c.loop-hands.hands.items c.remove.result w c.loop-hands.pages.items c.loop-hands.gates.items c.loop-hands.worst c.loop-hands.invariant.0 lt c.remove.ensures.value c.into_worker-worker.ensures).0 in
    (ap acts row ∙ is.book.row.acts, ap replies row ∙ is.book.row.told)

pub loop-hands-preserved : goal.loop-hands-preserved
loop-hands-preserved g c =
    let i = c.loop-hands.invariant in
    let counts = g.G.Gate.counts in
    let see = sight_of g.C.Client g.S.Source g.K.Sink in
    let b = c.args.board.now in
    let seats = c.args._seats.now in
    let lt : 0 < length c.loop-hands.hands.items = search rules in
    let w = c.into_worker-worker.result in
    let wp = c.into_parts-book.ensures in
    let bp = c.into_parts-pass.ensures in
    let m = c.meet.ensures in
    let pass : c.into_parts-pass.result.0 ≡ w.book.pass = bp.0 ∙ ap (λ k. k.pass) wp.0 in
    let listed = subst (λ p. (pass_view c.meet.new.root).joined ≡ (pass_view c.loop-hands.root).joined ++ ((pass_view p).number, (pass_view p).mine) ∷ []) pass m.listed in
    let on = gathers_on counts see b seats _ _ _ c.loop-hands.root c.meet.new.root c.loop-hands.hands.items c.remove.result w c.loop-hands.pages.items c.loop-hands.gates.items c.loop-hands.worst i.0 lt c.remove.ensures.value c.into_worker-worker.ensures
    m.root.0 m.root.1 m.root.2 m.root.3 listed (rw pass at m.history) in
    let pages = c.push_reserved.ensures.items ∙ ap (λ l. c.loop-hands.pages.items ++ l ∷ []) (bp.1 ∙ ap (λ k. k.log) wp.0) in
    let gates = c.push_reserved-in-loop-hands.ensures.items ∙ ap (λ l. c.loop-hands.gates.items ++ l ∷ []) wp.1 in
    let worst = c.worse-worst.ensures ∙ ap (worse c.loop-hands.worst) wp.2 in
    let gone : length c.remove.new.self.items + 1 ≡ length c.loop-hands.hands.items = search rules in
    let p : length c.push_reserved.new.self.items ≡ length c.loop-hands.pages.items + 1 = search rules in
    let q : length c.push_reserved-in-loop-hands.new.self.items ≡ length c.loop-hands.gates.items + 1 = search rules in
    let pc = c.push_reserved.ensures.capacity in
    let qc = c.push_reserved-in-loop-hands.ensures.capacity in (
      subst (λ (z : List (Hand g.row.S.Denot g.row.K.Denot g.row.C.Denot g.row.G.Denot) × List PassLogValue × List g.row.G.Denot × Option Failure). Gathers counts see b seats c.meet.new.root z.0 z.1 z.2 z.3)
          (λ j. (sym c.remove.ensures.items j, sym pages j, sym gates j, sym worst j)) on,
      m.root.3 ∙ i.1,
      m.root.2 ∙ i.2,
      (let r = i.3 in omega (arith, r, gone, p, pc)),
      (let r = i.4 in omega (arith, r, gone, q, qc)),
    )
