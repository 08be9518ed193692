use Rattle.std.proofs.Common.{ap}
use Rattle.turnstile.specs.Entries.{own}
use Rattle.play_workers.proofs.hiring.open_book.Goals as goal

pub returns-clause-book : goal.returns-clause-book
returns-clause-book g c = λ b seats of number seen mine.
    let kit = c.requires.kit in
    c.new.ensures.book b seats (record {
      of = of;
      numbered = number;
      unseen = ap (own c.args.number) seen;
      unmade = mine;
      empty = kit.lines;
      rests = record { of = kit.of b; acts = kit.acts; told = kit.told; room = kit.room };
    })
