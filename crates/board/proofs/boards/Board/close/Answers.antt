use Rattle.std.proofs.Common.{sym, subst}
use Rattle.il_machine.specs.Whole.{Stands}
use Rattle.il_graph.specs.Shown.{kept}
use Rattle.graph_acts.specs.Objects.{HasObjects}
use Rattle.graph_acts.specs.Plain.{sight_of}
use Rattle.board.specs.Asking.{bare_log}
use Rattle.board.specs.Histories.{graph_of, known_of, HeadersAreHeld, ClientsAreHeld}
use Rattle.board.specs.Boards.{first_of, first_graph}
use Rattle.board.proofs.Ending.{whole}
use Rattle.board.proofs.OneRun.{run_of_shown}
use Rattle.board.proofs.boards.Board.close.Goals as goal

pub returns-clause-whole : goal.returns-clause-whole
returns-clause-whole g c =
    let see = sight_of g.C.Client g.S.Source g.K.Sink in
    let e = c.close-watched.ensures in
    let one = e.is_legal.one in
    let A = e.stood.worlds one.world one.stands in
    let is = sym c.into_graph-graph.ensures in
    let S = subst (λ x. Stands (kept see.progress x) A.reaches.world) is A.stands in
    whole see (first_graph c.args.self) c.into_graph-graph.result e.log (c.args.root.turn.seat.me.0.splits) (subst (HeadersAreHeld (first_graph c.args.self) (bare_log e.log)) is e.stood.headers)
    (subst (ClientsAreHeld see (first_graph c.args.self) (bare_log e.log)) is e.stood.clients) one.world A.reaches.world one.stands S (c.law_of_worlds.ensures.sound A.reaches.world S) A.reaches.works e.each e.no_other

pub returns-clause-all_in : goal.returns-clause-all_in
returns-clause-all_in g c = λ first files. let W = returns-clause-whole g c first in record { headers = W.headers; clients = W.clients; works = W.works; files = files }

pub returns-clause-closed : goal.returns-clause-closed
returns-clause-closed g c =
    let see = sight_of g.C.Client g.S.Source g.K.Sink in
    let e = c.close-watched.ensures in
    let first = first_of c.args.self in
    let is = sym c.into_graph-graph.ensures in
    record {
      log = e.log;
      is_legal = e.is_legal;
      met = e.met;
      stood = λ w s. let A = e.stood.worlds w s in (
        A.reaches.world,
        A.reaches.acts,
        A.reaches.plain,
        run_of_shown first.handles.items w (known_of first) A.reaches.acts A.reaches.world A.reaches.all A.reaches.shown,
        subst (λ x. Stands (kept see.progress x) A.reaches.world) is A.stands,
      );
      objects = subst (λ x. HasObjects (graph_of first) (bare_log e.log) x) is e.stood.objects;
      seen = e.seen;
      mine = e.mine;
      joined = e.joined;
      each = e.each;
      all = e.all;
      no_other = e.no_other;
    }
