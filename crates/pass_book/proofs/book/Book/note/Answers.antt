use Rattle.std.proofs.Common.{◌++◌, [], option_map, sym, subst, IfSome}
use Rattle.act_text.specs.declared.text.ActText.{ActText}
use Rattle.play_log.specs.Choosing.{picked}
use Rattle.play_log.specs.Lines.{IsLogLine}
use Rattle.play_log.specs.Places.{IsKeptAt}
use Rattle.pass_book.specs.Saying.{both_said, line_by}
use Rattle.pass_book.proofs.Noted.{IsPrinted, noted}
use Rattle.pass_book.proofs.book.Book.note.Goals as goal

pub returns-in-Some-Some-clause-lines : goal.returns-in-Some-Some-clause-lines
returns-in-Some-Some-clause-lines g c = λ lines kept whole.
    let said : ActText = record { act = c.in-Some-Some.act; reply = c.in-Some-Some.reply } in
    let printed : IsPrinted c.in-Some-Some.reply = subst (λ o. IfSome o IsPrinted) c.in-Some-Some.is-1 c.requires.printed in
    subst (λ o. IsKeptAt (lines ++ picked (option_map (line_by c.args.self.now.number) o) c.args.place []) c.entry.new.self)
    (λ i. both_said (sym c.in-Some-Some.is-0 i) (sym c.in-Some-Some.is-1 i))
    (noted c.entry.result c.args.self.now.log c.entry.new.self lines c.args.place c.args.self.now.number said printed (c.entry.ensures.line lines kept) c.entry.ensures.broken whole)

pub returns-in-Some-Some-clause-said : goal.returns-in-Some-Some-clause-said
returns-in-Some-Some-clause-said g c =
    subst (λ o. IfSome (option_map (line_by c.args.self.now.number) o) IsLogLine)
    (λ i. both_said (sym c.in-Some-Some.is-0 i) (sym c.in-Some-Some.is-1 i))
    c.law_of_lines.ensures
