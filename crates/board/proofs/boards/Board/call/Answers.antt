use Rattle.std.proofs.Common.{◌∙◌, sym, subst}
use Rattle.turnstile.specs.Passes.{view}
use Rattle.state_words.specs.Shown.{Within}
use Rattle.state_words.specs.Tokens.{IsReaderOf, known}
use Rattle.state_words.specs.declared.words.StateWords.{StateWords}
use Rattle.graph_acts.specs.Plain.{sight_of}
use Rattle.board.specs.Boards.{first_of}
use Rattle.board.proofs.LastCall.{last_reader, knows_all}
use Rattle.board.proofs.Calling.{headers_called, clients_called, reply_called, works_called}
use Rattle.board.proofs.boards.Board.call.Goals as goal

pub learn-requires : goal.learn-requires
learn-requires g c =
    let see = sight_of g.C.Client g.S.Source g.K.Sink in
    let k = c.in-Ok.ensures.ok in
    let told = last_reader see (first_of c.args.self.now) _ k.before _ k.is_seen k.is_legal in (
      subst (λ (w : StateWords). IsReaderOf w c.split-reader.new.reader) (c.deref.ensures ∙ sym c.deref-in-Ok.ensures) c.split-reader.ensures.0,
      subst (λ (w : StateWords). IsReaderOf w c.in-Ok.field-0-1.reader) (sym c.args.self.now.same_words ∙ sym c.deref-in-Ok.ensures) told,
    )

pub returns-in-Ok-clause-ok : goal.returns-in-Ok-clause-ok
returns-in-Ok-clause-ok g c =
    let see = sight_of g.C.Client g.S.Source g.K.Sink in
    record { given = c.split-reader.result; back = c.in-Ok.field-0-1.reader; called = c.in-Ok.ensures.ok }

pub returns-in-Ok-clause-reply : goal.returns-in-Ok-clause-reply
returns-in-Ok-clause-reply g c =
    let see = sight_of g.C.Client g.S.Source g.K.Sink in
    reply_called see g.C.Client.HEADERS (first_of c.args.self.now) (view c.args.pass.now.turn) c.args.act c.in-Ok.place c.in-Ok.field-0-1.reply (view c.turn.new.pass)
    (record { given = c.split-reader.result; back = c.in-Ok.field-0-1.reader; called = c.in-Ok.ensures.ok })

pub returns-in-Ok-clause-headers : goal.returns-in-Ok-clause-headers
returns-in-Ok-clause-headers g c =
    let see = sight_of g.C.Client g.S.Source g.K.Sink in
    headers_called see g.C.Client.HEADERS (first_of c.args.self.now) (view c.args.pass.now.turn) c.args.act c.in-Ok.place c.in-Ok.field-0-1.reply (view c.turn.new.pass)
    (record { given = c.split-reader.result; back = c.in-Ok.field-0-1.reader; called = c.in-Ok.ensures.ok })

pub returns-in-Ok-clause-clients : goal.returns-in-Ok-clause-clients
returns-in-Ok-clause-clients g c =
    let see = sight_of g.C.Client g.S.Source g.K.Sink in
    clients_called see g.C.Client.HEADERS (first_of c.args.self.now) (view c.args.pass.now.turn) c.args.act c.in-Ok.place c.in-Ok.field-0-1.reply (view c.turn.new.pass)
    (record { given = c.split-reader.result; back = c.in-Ok.field-0-1.reader; called = c.in-Ok.ensures.ok })

pub returns-in-Ok-clause-works : goal.returns-in-Ok-clause-works
returns-in-Ok-clause-works g c =
    let see = sight_of g.C.Client g.S.Source g.K.Sink in
    works_called see g.C.Client.HEADERS (first_of c.args.self.now) (view c.args.pass.now.turn) c.args.act c.in-Ok.place c.in-Ok.field-0-1.reply (view c.turn.new.pass)
    (record { given = c.split-reader.result; back = c.in-Ok.field-0-1.reader; called = c.in-Ok.ensures.ok })

pub returns-in-Ok-clause-shown : goal.returns-in-Ok-clause-shown
returns-in-Ok-clause-shown g c =
    let see = sight_of g.C.Client g.S.Source g.K.Sink in
    let k = c.in-Ok.ensures.ok in
    knows_all see (first_of c.args.self.now) _ k.before _ (known c.learn.new.to) k.is_seen k.is_legal c.learn.ensures.known.1

pub returns-in-Ok-clause-known : goal.returns-in-Ok-clause-known
returns-in-Ok-clause-known g c = subst (λ l. Within l (known c.learn.new.to)) c.split-reader.ensures.2 c.learn.ensures.known.0

pub returns-in-Err-clause-known : goal.returns-in-Err-clause-known
returns-in-Err-clause-known g c = subst (λ l. Within l (known c.learn-in-Err.new.to)) c.split-reader.ensures.2 c.learn-in-Err.ensures.known.0
