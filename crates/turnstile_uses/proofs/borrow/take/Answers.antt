use Rattle.turnstile_uses.proofs.Purses.{took}
use Rattle.turnstile_uses.proofs.borrow.take.Goals as goal

pub returns-in-Ok-default-Got-clause-coin : goal.returns-in-Ok-default-Got-clause-coin
returns-in-Ok-default-Got-clause-coin g c = took _ _ _ c.in-Ok-default-Got.field-0-1 c.in-Ok-default-Got.coin c.in-Ok-default-Got.field-0-1-is c.in-Ok-default-Got.ensures.ok.added c.requires.1
