use Rattle.std.proofs.Common.{List, [], ◌∷◌, ◌++◌, length-set, take, Ok, Err, ◌∙◌, subst}
use Rattle.il_machine.specs.Acts as acts
use Rattle.play_result_laws.specs.Rounds.{looks}
use Rattle.graph_acts.specs.Plain.{sight_of}
use Rattle.board.specs.Boards.{own_calls}
use Rattle.conducting_thread.specs.Asking.{HasAsked}
use Rattle.conducting_thread.specs.Looking.{HasLost}
use Rattle.work_signs.specs.Seats.{handles_of}
use Rattle.conducting_thread.proofs.Asked.{asked_more}
use Rattle.conducting_thread.proofs.Requests.{keeps_on}
use Rattle.conducting_thread.proofs.Rounds.{for_none, looks_on, lost_look}
use Rattle.conducting_thread.proofs.Seats.{seated_there}
use Rattle.conducting_thread.proofs.looking.look_all.Goals as goal

pub look-requires-clause-seated : goal.look-requires-clause-seated
look-requires-clause-seated g c = seated_there c.args.seats.now c.loop-place.place c.handle_at-h.result c.handle_at-h.ensures c.requires.seated

pub returns-in_err-view-clause-none : goal.returns-in_err-view-clause-none
returns-in_err-view-clause-none g c =
    let see = sight_of g.C.Client g.S.Source g.K.Sink in
    let old = own_calls c.args.book.now.pass in
    let mid = own_calls c.loop-place.book.pass in
    let new = own_calls c.look.new.book.pass in
    let i = c.loop-place.place in
    let seen = looks (handles_of (take i c.args.seats.now)) (take i c.loop-place.views) in
    let L = c.in_err-view.ensures.none in
    let it : List (acts.Act × acts.Reply) = (acts.Progress c.handle_at-h.result, acts.Progressed (Err L.0)) ∷ [] in
    let lost : HasLost see (handles_of c.args.seats.now) old new = (
      seen ++ it,
      asked_more see old mid new seen it c.loop-place.invariant.asked L.1,
      lost_look c.args.seats.now c.loop-place.views i c.handle_at-h.result c.handle_at-h.ensures c.loop-place.invariant.many c.requires.few L.0,
    ) in
    for_none _ lost

pub loop-place-preserved : goal.loop-place-preserved
loop-place-preserved g c =
    let see = sight_of g.C.Client g.S.Source g.K.Sink in
    let old = own_calls c.args.book.now.pass in
    let mid = own_calls c.loop-place.book.pass in
    let new = own_calls c.look.new.book.pass in
    let i = c.loop-place.place in
    let view = c.in_ok-view.view in
    let seen = looks (handles_of (take i c.args.seats.now)) (take i c.loop-place.views) in
    let it : List (acts.Act × acts.Reply) = (acts.Progress c.handle_at-h.result, acts.Progressed (Ok view)) ∷ [] in
    record {
      keeps = keeps_on g.C.Client.progress c.args.board.now c.args.seats.now c.args.book.now c.loop-place.book c.look.new.book c.loop-place.invariant.keeps c.look.ensures.keeps;
      many = length-set c.loop-place.views i view ∙ c.loop-place.invariant.many;
      asked = subst (λ (xs : List (acts.Act × acts.Reply)). HasAsked see old xs new) (looks_on c.args.seats.now c.loop-place.views i c.handle_at-h.result c.handle_at-h.ensures c.loop-place.invariant.many c.requires.few view)
          (asked_more see old mid new seen it c.loop-place.invariant.asked c.in_ok-view.ensures.some);
    }
