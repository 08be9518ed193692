use Rattle.std.proofs.Common.{ap, ◌∙◌, ◌++◌, [], option_map, subst, sym, IfSome}
use Rattle.board.specs.Boards.{first_of, pass_view}
use Rattle.graph_acts.specs.Plain.{sight_of}
use Rattle.play_log.specs.Choosing.{picked}
use Rattle.play_log.specs.Lines.{IsLogLine}
use Rattle.play_log.specs.Places.{IsKeptAt}
use Rattle.pass_book.specs.Saying.{both_said, line_by, reply_said}
use Rattle.pass_book.proofs.Claimed.{called_work}
use Rattle.pass_book.proofs.Few.{called_few}
use Rattle.pass_book.proofs.Keeping.{book_called, book_made}
use Rattle.pass_book.proofs.Noted.{IsPrinted, reply_printed}
use Rattle.pass_book.proofs.book.Book.call.Goals as goal

pub note-requires : goal.note-requires
note-requires g c = record { printed = subst (λ o. IfSome o IsPrinted) (sym c.reply_said.ensures) (reply_printed c.frames_of-frames.result c.in-Ok.reply) }

pub returns-clause-goes_on : goal.returns-clause-goes_on
returns-clause-goes_on g c =
    let see = sight_of g.C.Client g.S.Source g.K.Sink in
    book_called see g.C.Client.HEADERS c.args.board.now c.args.seats.now c.args.self.now c.note.new.self c.call.new.pass c.args.act c.in-Ok.place c.in-Ok.reply
    c.requires.book c.requires.of_play
    (subst (λ o. IfSome (option_map (line_by c.args.self.now.number) o) IsLogLine)
    (λ i. both_said (c.act_said-said.ensures i) ((c.reply_said.ensures ∙ ap (λ f. reply_said f c.in-Ok.reply) c.frames_of-frames.ensures) i))
    c.note.ensures.said)
    c.in-Ok.ensures.pass.0 c.in-Ok.ensures.pass.1 c.in-Ok.ensures.ok
    c.note.ensures.same.0 c.note.ensures.same.1 c.note.ensures.same.2 c.note.ensures.broken
    (λ lines kept whole. subst (λ o. IsKeptAt (lines ++ picked (option_map (line_by c.args.self.now.number) o) c.in-Ok.place []) c.note.new.self.log)
    (λ i. both_said (c.act_said-said.ensures i) ((c.reply_said.ensures ∙ ap (λ f. reply_said f c.in-Ok.reply) c.frames_of-frames.ensures) i))
    (c.note.ensures.lines lines kept whole))

pub returns-clause-added : goal.returns-clause-added
returns-clause-added g c =
    let see = sight_of g.C.Client g.S.Source g.K.Sink in
    book_made see g.C.Client.HEADERS c.args.board.now c.args.seats.now c.args.self.now c.note.new.self c.call.new.pass c.args.act c.in-Ok.place c.in-Ok.reply c.requires.book c.in-Ok.ensures.ok c.note.ensures.same.0

pub returns-clause-work : goal.returns-clause-work
returns-clause-work g c =
    let see = sight_of g.C.Client g.S.Source g.K.Sink in
    called_work see g.C.Client.HEADERS (first_of c.args.board.now) (pass_view c.args.self.now.pass) c.args.act c.in-Ok.place c.in-Ok.reply (pass_view c.call.new.pass) c.in-Ok.ensures.ok

pub returns-clause-few : goal.returns-clause-few
returns-clause-few g c =
    let see = sight_of g.C.Client g.S.Source g.K.Sink in
    rw c.note.ensures.same.0 (called_few see g.C.Client.HEADERS (first_of c.args.board.now) (pass_view c.args.self.now.pass) (pass_view c.call.new.pass) c.args.act c.in-Ok.place c.in-Ok.reply c.in-Ok.ensures.ok)
