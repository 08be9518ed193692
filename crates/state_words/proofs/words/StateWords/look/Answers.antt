use Rattle.std.proofs.Common.{sym, ap, subst}
use Rattle.state_words.specs.Shown.{Within}
use Rattle.state_words.proofs.Showing.{looks}
use Rattle.state_words.proofs.words.StateWords.look.Goals as goal

pub load-requires : goal.load-requires
load-requires c = (c.requires.0, c.requires.1, looks _ _ _ _)

pub returns-clause-known : goal.returns-clause-known
returns-clause-known c = let e = c.load.ensures.2 in let is = sym (ap (λ m. m.0.seen) e.after) in (subst (Within c.args.seat.now.me.0.seen) is e.seen, subst (Within c.args.seat.now.me.0.also) is e.also)
