use Rattle.std.proofs.Common.{rules, ap, refl, Some, ◌≡◌}
use Rattle.turnstile_uses.specs.Runs.{stop}
use Rattle.turnstile_uses.proofs.Purses.{whole}
use Rattle.turnstile_uses.proofs.borrow.both.Goals as goal

pub unwrap-requires-2 : goal.unwrap-requires-2
unwrap-requires-2 g c = let e = c.close-coin.ensures in let is : c.close-coin.result.coin ≡ Some c.args.coin = whole _ _ c.args.coin e.log _ (ap (λ v. v.coin) c.in-Ok.ensures.ok.0) e.stood.0 e.met e.each e.no_other in search rules

pub returns-clause-same : goal.returns-clause-same
returns-clause-same g c = let e = c.close-coin.ensures in let is : c.close-coin.result.coin ≡ Some c.args.coin = whole _ _ c.args.coin e.log _ (ap (λ v. v.coin) c.in-Ok.ensures.ok.0) e.stood.0 e.met e.each e.no_other in search rules

pub new-requires : goal.new-requires
new-requires g c = ((Some c.args.coin, stop), (stop, refl))
