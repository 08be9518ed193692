use Rattle.board.specs.Boards.{own_calls}
use Rattle.graph_acts.specs.Plain.{sight_of}
use Rattle.pass_book.proofs.Keeping.{quiet_holds, quiet_may, quiet_of_play}
use Rattle.pass_book.proofs.book.Book.quiet.Goals as goal

pub call-reply-requires-clause-may : goal.call-reply-requires-clause-may
call-reply-requires-clause-may g c =
    let see = sight_of g.C.Client g.S.Source g.K.Sink in
    quiet_may see g.C.Client.HEADERS (own_calls c.args.self.now.pass) c.args.asked c.into_act.result c.into_act.ensures

pub call-reply-requires-clause-of_play : goal.call-reply-requires-clause-of_play
call-reply-requires-clause-of_play g c = quiet_of_play c.args.seats.now c.args.asked c.into_act.result c.into_act.ensures c.requires.of_play

pub returns-clause-holds : goal.returns-clause-holds
returns-clause-holds g c = quiet_holds g.C.Client.progress c.args.self.now c.call-reply.new.self c.args.asked c.reply_in.result c.into_act.result c.call-reply.result c.reply_in.ensures.kind c.into_act.ensures c.reply_in.ensures.reply
    c.call-reply.ensures.headers c.call-reply.ensures.clients c.call-reply.ensures.works
