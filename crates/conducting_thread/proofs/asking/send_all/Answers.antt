use Rattle.std.proofs.Common.{false, ◌+◌, List, [], ◌∷◌, ◌++◌, map, take, drop, sym, subst}
use Rattle.omx_types.specs.declared.handle.Handle.{Handle}
use Rattle.il_machine.specs.Acts as acts
use Rattle.graph_acts.specs.Plain.{sight_of}
use Rattle.board.specs.Boards.{own_calls}
use Rattle.play_result_laws.specs.Asked.{sending}
use Rattle.work_signs.specs.declared.seat.Seat.{Seat}
use Rattle.conducting_thread.specs.Asking.{AreAnswered, HasAsked}
use Rattle.conducting_thread.proofs.Asked.{answered_more, answered_no_more, asked_more}
use Rattle.conducting_thread.proofs.Lists.{around, one_more}
use Rattle.conducting_thread.proofs.Requests.{keeps_on}
use Rattle.conducting_thread.proofs.Seats.{seated_there}
use Rattle.conducting_thread.proofs.asking.send_all.Goals as goal

pub ask-requires-clause-request : goal.ask-requires-clause-request
ask-requires-clause-request g c = (tt, (seated_there c.args.seats.now c.loop-place.place c.handle_at-h.result c.handle_at-h.ensures c.requires.seated, tt))

pub returns-then-not-ask-clause-answered : goal.returns-then-not-ask-clause-answered
returns-then-not-ask-clause-answered g c =
    let see = sight_of g.C.Client g.S.Source g.K.Sink in
    let old = own_calls c.args.book.now.pass in
    let mid = own_calls c.loop-place.book.pass in
    let new = own_calls c.ask.new.book.pass in
    let seats = c.args.seats.now in
    let i = c.loop-place.place in
    let E = c.handle_at-h.ensures in
    let f : Seat → acts.Act × acts.Reply = λ seat. sending c.args.state seat.handle in
    let front = map f (take i seats) in
    let it = subst (λ (h : Handle). AreAnswered see mid (sending c.args.state h ∷ []) false new) E.2 c.if-not-ask.ensures.answered in
    let first = answered_more see old mid new front (f E.0 ∷ []) false c.loop-place.invariant.asked it in
    let all = answered_no_more see old new (front ++ f E.0 ∷ []) (map f (drop (i + 1) seats)) first in
    subst (λ (xs : List (acts.Act × acts.Reply)). AreAnswered see old xs false new) (around f seats i E.0 E.1) all

pub loop-place-preserved : goal.loop-place-preserved
loop-place-preserved g c =
    let see = sight_of g.C.Client g.S.Source g.K.Sink in
    let old = own_calls c.args.book.now.pass in
    let mid = own_calls c.loop-place.book.pass in
    let new = own_calls c.ask.new.book.pass in
    let seats = c.args.seats.now in
    let i = c.loop-place.place in
    let E = c.handle_at-h.ensures in
    let f : Seat → acts.Act × acts.Reply = λ seat. sending c.args.state seat.handle in
    let it = subst (λ (h : Handle). HasAsked see mid (sending c.args.state h ∷ []) new) E.2 c.if-not-ask.ensures.answered in
    record {
      keeps = keeps_on g.C.Client.progress c.args.board.now seats c.args.book.now c.loop-place.book c.ask.new.book c.loop-place.invariant.keeps c.ask.ensures.keeps;
      asked = subst (λ (xs : List (acts.Act × acts.Reply)). HasAsked see old xs new) (sym (one_more f seats i E.0 E.1)) (asked_more see old mid new (map f (take i seats)) (f E.0 ∷ []) c.loop-place.invariant.asked it);
    }
