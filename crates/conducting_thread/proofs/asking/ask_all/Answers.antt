use Rattle.std.proofs.Common.{false, ◌+◌, List, [], ◌∷◌, ◌++◌, map, take, drop, sym, subst}
use Rattle.il_machine.specs.Acts as acts
use Rattle.graph_acts.specs.Plain.{sight_of}
use Rattle.board.specs.Boards.{own_calls}
use Rattle.conducting_thread.specs.Asking.{AreAnswered, HasAsked, due}
use Rattle.conducting_thread.proofs.Asked.{answered_more, answered_no_more, asked_more}
use Rattle.conducting_thread.proofs.Lists.{around, one_more}
use Rattle.conducting_thread.proofs.Requests.{keeps_on}
use Rattle.conducting_thread.proofs.asking.ask_all.Goals as goal

pub returns-then-not-ask-clause-answered : goal.returns-then-not-ask-clause-answered
returns-then-not-ask-clause-answered g c =
    let see = sight_of g.C.Client g.S.Source g.K.Sink in
    let old = own_calls c.args.book.now.pass in
    let mid = own_calls c.loop-place.book.pass in
    let new = own_calls c.ask.new.book.pass in
    let rs = c.args.requests.now in
    let i = c.loop-place.place in
    let x = c.request_at-request.result in
    let front = map due (take i rs) in
    let first = answered_more see old mid new front (due x ∷ []) false c.loop-place.invariant.asked c.if-not-ask.ensures.answered in
    let all = answered_no_more see old new (front ++ due x ∷ []) (map due (drop (i + 1) rs)) first in
    subst (λ (xs : List (acts.Act × acts.Reply)). AreAnswered see old xs false new) (around due rs i x c.request_at-request.ensures) all

pub loop-place-preserved : goal.loop-place-preserved
loop-place-preserved g c =
    let see = sight_of g.C.Client g.S.Source g.K.Sink in
    let old = own_calls c.args.book.now.pass in
    let mid = own_calls c.loop-place.book.pass in
    let new = own_calls c.ask.new.book.pass in
    let rs = c.args.requests.now in
    let i = c.loop-place.place in
    let x = c.request_at-request.result in
    record {
      keeps = keeps_on g.C.Client.progress c.args.board.now c.args.seats.now c.args.book.now c.loop-place.book c.ask.new.book c.loop-place.invariant.keeps c.ask.ensures.keeps;
      asked = subst (λ (xs : List (acts.Act × acts.Reply)). HasAsked see old xs new) (sym (one_more due rs i x c.request_at-request.ensures))
          (asked_more see old mid new (map due (take i rs)) (due x ∷ []) c.loop-place.invariant.asked c.if-not-ask.ensures.answered);
    }
