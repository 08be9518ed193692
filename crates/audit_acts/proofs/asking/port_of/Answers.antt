use Rattle.std.proofs.Common.{refl}
use Rattle.audit_acts.proofs.asking.port_of.Goals as goal

pub returns-in-Some-clause-some : goal.returns-in-Some-clause-some
returns-in-Some-clause-some c = let x = c.in-Some.ensures.some in (c.in-Some.player.place, x.0, c.in-Some.player.handle, x.1, refl)
