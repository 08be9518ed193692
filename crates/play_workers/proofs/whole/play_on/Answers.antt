use Rattle.std.proofs.Common.{◌≡◌, ◌+◌, List, [], ◌∷◌, ◌++◌, All, None, length, length-append, refl, ap, sym, subst, ◌∙◌, arith}
use Rattle.play_log.specs.Places.{PassLogValue}
use Rattle.graph_acts.specs.Holding.{Clear}
use Rattle.graph_acts.specs.Plain.{sight_of}
use Rattle.board.specs.declared.pass.BoardPass.{BoardPass}
use Rattle.board.specs.Asking.{bare_log}
use Rattle.board.specs.Boards.{first_graph, first_of, pass_view}
use Rattle.board.specs.Rows.{acts, replies}
use Rattle.play_workers.specs.Hands.{AreThreads, HasStopped}
use Rattle.play_workers.specs.declared.ran.Ran.{Ran}
use Rattle.play_workers.specs.Wholes.{Gathers}
use Rattle.play_workers.proofs.Ending.{leaves, played, root_acts}
use Rattle.play_workers.proofs.Joining.{begun}
use Rattle.play_workers.proofs.Threads.{IsLast, all_last, last_conducts, threads_pop}
use Rattle.play_workers.proofs.whole.play_on.Goals as goal

pub run_all-hands-requires-clause-threads : goal.run_all-hands-requires-clause-threads
run_all-hands-requires-clause-threads g c κs within = c.start-hands.ensures.threads c.args.plan.now c.args.seats.now c.requires.conductor

pub into_conductor-book-requires : goal.into_conductor-book-requires
into_conductor-book-requires g c =
    let counts = g.G.Gate.counts in
    let see = sight_of g.C.Client g.S.Source g.K.Sink in
    let t = threads_pop counts see c.args.board c.args.plan.now c.args.seats.now 1 c.pop.new.self.items c.in-Some.last (subst (AreThreads counts see c.args.board c.args.plan.now c.args.seats.now 1) c.in-Some.ensures.items c.run_all-hands.ensures.threads) in
    last_conducts counts see c.args.board c.args.plan.now c.args.seats.now (1 + length c.pop.new.self.items) c.in-Some.last t.1

pub end-requires : goal.end-requires
end-requires g c =
    let counts = g.G.Gate.counts in
    let see = sight_of g.C.Client g.S.Source g.K.Sink in
    let t = threads_pop counts see c.args.board c.args.plan.now c.args.seats.now 1 c.pop.new.self.items c.in-Some.last (subst (AreThreads counts see c.args.board c.args.plan.now c.args.seats.now 1) c.in-Some.ensures.items c.run_all-hands.ensures.threads) in
    let k = subst (IsLast counts see c.args.board c.args.plan.now c.args.seats.now (1 + length c.pop.new.self.items)) c.into_conductor-book.ensures t.1 in
    let row = k.0.book.row in
    (ap acts c.into_parts-root.ensures.2 ∙ row.acts, ap replies c.into_parts-root.ensures.2 ∙ row.told)

pub meet_all-worst-requires-clause-gathers : goal.meet_all-worst-requires-clause-gathers
meet_all-worst-requires-clause-gathers g c =
    let counts = g.G.Gate.counts in
    let see = sight_of g.C.Client g.S.Source g.K.Sink in
    let rest = c.pop.new.self.items in
    let p = c.into_conductor-book.result in
    let t = threads_pop counts see c.args.board c.args.plan.now c.args.seats.now 1 rest c.in-Some.last (subst (AreThreads counts see c.args.board c.args.plan.now c.args.seats.now 1) c.in-Some.ensures.items c.run_all-hands.ensures.threads) in
    let k = subst (IsLast counts see c.args.board c.args.plan.now c.args.seats.now (1 + length rest)) c.into_conductor-book.ensures t.1 in
    let at = begun counts see c.args.board c.args.seats.now c.args.plan.now p rest k.0 k.1 k.2 t.0 in
    let pages : c.push_reserved.new.self.items ≡ (p.book).log ∷ [] = c.push_reserved.ensures.items ∙ (λ i. c.requires.room.pages.0 i ++ c.into_parts-root.ensures.1 i ∷ []) in
    let gates : c.start-hands.new.gates.items ≡ [] = c.start-hands.ensures.gates.0 in
    subst (λ (z : BoardPass g.row.S.Denot g.row.K.Denot g.row.C.Denot × List PassLogValue × List g.row.G.Denot). Gathers counts see c.args.board c.args.seats.now z.0 rest z.1 z.2 None) (λ i. (sym c.into_parts-root.ensures.0 i, sym pages i, sym gates i)) at

pub close-graph-requires-clause-root : goal.close-graph-requires-clause-root
close-graph-requires-clause-root g c =
    let counts = g.G.Gate.counts in
    let see = sight_of g.C.Client g.S.Source g.K.Sink in
    let b = c.args.board in
    let rest = c.pop.new.self.items in
    let t = threads_pop counts see b c.args.plan.now c.args.seats.now 1 rest c.in-Some.last (subst (AreThreads counts see b c.args.plan.now c.args.seats.now 1) c.in-Some.ensures.items c.run_all-hands.ensures.threads) in
    let k = subst (IsLast counts see b c.args.plan.now c.args.seats.now (1 + length rest)) c.into_conductor-book.ensures t.1 in
    let m = c.meet_all-worst.ensures in
    let same = m.same.0 ∙ ap (λ p. (pass_view p).mine) c.into_parts-root.ensures.0 in
    (m.gathers.pass, m.gathers.met.number, subst (λ l. Clear see (bare_log l)) (sym same) k.0.holds)

pub returns-clause-played : goal.returns-clause-played
returns-clause-played g c =
    let counts = g.G.Gate.counts in
    let see = sight_of g.C.Client g.S.Source g.K.Sink in
    let b = c.args.board in
    let rest = c.pop.new.self.items in
    let p = c.into_conductor-book.result in
    let t = threads_pop counts see b c.args.plan.now c.args.seats.now 1 rest c.in-Some.last (subst (AreThreads counts see b c.args.plan.now c.args.seats.now 1) c.in-Some.ensures.items c.run_all-hands.ensures.threads) in
    let k = subst (IsLast counts see b c.args.plan.now c.args.seats.now (1 + length rest)) c.into_conductor-book.ensures t.1 in
    let m = c.meet_all-worst.ensures in
    let closed = c.close-graph.ensures.closed in
    let same = m.same.0 ∙ ap (λ p. (pass_view p).mine) c.into_parts-root.ensures.0 in
    let rest' : length c.run_all-hands.result.items ≡ length rest + 1 = ap length c.in-Some.ensures.items ∙ length-append rest (c.in-Some.last ∷ []) in
    let splits : (pass_view c.into_parts-root.result.0).splits ≡ (pass_view (p.book).pass).splits = ap (λ q. (pass_view q).splits) c.into_parts-root.ensures.0 in
    let ran = c.run_all-hands.ensures.many in
    let begun' = c.start-hands.ensures.many in
    let left = m.gathers.met.splits in
    let as_many = m.gathers.met.gate_count in
    let still = m.same.1 in
    let made = k.1 in
    let many : length c.args.gates.items ≡ length c.meet_all-worst.new.gates.items = omega (arith, rest', splits, ran, begun', left, as_many, still, made) in
    let acts' = root_acts see b c.args.plan.now c.args.seats.now c.meet_all-worst.new.root p k.0 same in
    let ran : Ran g.row.S.Denot g.row.K.Denot g.row.C.Denot g.row.G.Denot = record {
      graph = c.close-graph.result;
      pages = c.meet_all-worst.new.pages;
      gates = c.meet_all-worst.new.gates;
      conductor = p.conductor;
      ended = p.ended;
      refused = p.refused;
      worst = c.meet_all-worst.result;
      stopped = p.stopped;
    } in
    let stops = subst HasStopped c.into_conductor-book.ensures (all_last HasStopped rest c.in-Some.last (subst (All HasStopped) c.in-Some.ensures.items c.run_all-hands.ensures.stop)) in (
      played counts see g.C.Client.HEADERS b c.args.seats.now (first_of b) c.meet_all-worst.new.root c.meet_all-worst.new.pages.items c.meet_all-worst.new.gates.items c.meet_all-worst.result c.close-graph.result m.gathers closed (length c.args.gates.items) (first_graph b) refl many acts',
      leaves counts see g.C.Client.HEADERS b c.args.plan.now c.args.seats.now (first_of b) c.meet_all-worst.new.root c.meet_all-worst.result p k.0 same ran m.gathers closed refl refl refl refl stops refl,
    )

pub returns-clause-many : goal.returns-clause-many
returns-clause-many g c =
    let counts = g.G.Gate.counts in
    let see = sight_of g.C.Client g.S.Source g.K.Sink in
    let b = c.args.board in
    let rest = c.pop.new.self.items in
    let p = c.into_conductor-book.result in
    let t = threads_pop counts see b c.args.plan.now c.args.seats.now 1 rest c.in-Some.last (subst (AreThreads counts see b c.args.plan.now c.args.seats.now 1) c.in-Some.ensures.items c.run_all-hands.ensures.threads) in
    let k = subst (IsLast counts see b c.args.plan.now c.args.seats.now (1 + length rest)) c.into_conductor-book.ensures t.1 in
    let m = c.meet_all-worst.ensures in
    let rest' : length c.run_all-hands.result.items ≡ length rest + 1 = ap length c.in-Some.ensures.items ∙ length-append rest (c.in-Some.last ∷ []) in
    let splits : (pass_view c.into_parts-root.result.0).splits ≡ (pass_view (p.book).pass).splits = ap (λ q. (pass_view q).splits) c.into_parts-root.ensures.0 in
    let ran = c.run_all-hands.ensures.many in
    let begun' = c.start-hands.ensures.many in
    let left = m.gathers.met.splits in
    let as_many = m.gathers.met.gate_count in
    let still = m.same.1 in
    let made = k.1 in
    let pages = m.gathers.met.page_count in
    (omega (arith, rest', splits, ran, begun', left, as_many, still, made), omega (arith, rest', splits, ran, begun', left, as_many, still, made, pages))
