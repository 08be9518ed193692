use Rattle.turnstile_uses.proofs.Purses.{gave}
use Rattle.turnstile_uses.proofs.borrow.give.Goals as goal

pub returns-in-Ok-default-Thanks-clause-given : goal.returns-in-Ok-default-Thanks-clause-given
returns-in-Ok-default-Thanks-clause-given g c = gave _ _ _ c.args.coin _ c.in-Ok-default-Thanks.ensures.ok.added
