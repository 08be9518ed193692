use Rattle.std.proofs.Common.{arith, ap, subst}
use Rattle.state_words.specs.Shown.{Within}
use Rattle.state_words.proofs.Showing.{splits}
use Rattle.state_words.proofs.words.StateWords.share.Goals as goal

pub split_seat-seat-requires : goal.split_seat-seat-requires
split_seat-seat-requires c = let t = c.requires.0 in let n = t.5 in (t.0, omega arith, splits _ _)

pub returns-clause-known : goal.returns-clause-known
returns-clause-known c = let knows = c.learn.ensures.known in (subst (λ z. Within z c.learn.new.to.seat.me.0.seen) (ap (λ m. m.0.seen) c.split_seat-seat.ensures.4) knows.1, knows.0)
