use Rattle.std.proofs.Common.{Bool, [], ◌∷◌, sym, subst}
use Rattle.graph_acts.specs.Plain.{sight_of}
use Rattle.board.specs.Boards.{own_calls}
use Rattle.conducting_thread.specs.Asking.{AreAnswered, due}
use Rattle.conducting_thread.proofs.Requests.{answered}
use Rattle.conducting_thread.proofs.asking.ask.Goals as goal

pub returns-clause-answered : goal.returns-clause-answered
returns-clause-answered g c =
    let see = sight_of g.C.Client g.S.Source g.K.Sink in
    let old = own_calls c.args.book.now.pass in
    let new = own_calls c.quiet.new.self.pass in
    subst (λ (ok : Bool). AreAnswered see old (due c.args.act ∷ []) ok new) (sym c.is_accepted.ensures)
    (answered see c.args.book.now.number old new c.args.act c.quiet.result c.requires.request.0 c.quiet.ensures.reply c.quiet.ensures.added)
