use Rattle.std.proofs.Common.{Ok, ap, ◌∙◌, subst}
use Rattle.graph_acts.specs.declared.act.Act.TheVariants as asks
use Rattle.graph_acts.specs.declared.act.Reply.TheVariants as replies
use Rattle.note_queues.specs.declared.taken.Took.TheVariants as tooks
use Rattle.pass_book.specs.Books.{Made}
use Rattle.pass_book.proofs.Delivering.{made_twice}
use Rattle.pass_book.proofs.book.Book.deliver.Goals as goal

pub returns-in-Told-clause-delivered : goal.returns-in-Told-clause-delivered
returns-in-Told-clause-delivered g c =
    let arm = c.in-TakeNote-Ok-Call in
    let one = subst (λ r. Made c.args.self.now (asks.TakeNote c.args.h) (replies.TakeNote r) c.call.new.self) (arm.field-0-is ∙ ap Ok arm.field-0-0-is) arm.ensures.added in (
      arm.call,
      c.in-Told.event,
      c.hear.new.self,
      c.in-Told.is,
      c.hear.ensures,
      made_twice c.args.self.now c.call.new.self c.end_note.new.self (asks.TakeNote c.args.h) (asks.EndNote c.args.h c.hear.new.self) (replies.TakeNote (Ok (tooks.Call arm.call))) replies.EndNote c.call.ensures.goes_on.number one c.end_note.ensures.made,
    )
