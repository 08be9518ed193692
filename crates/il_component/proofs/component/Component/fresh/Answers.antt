use Rattle.std.proofs.Common.{arith, rules}
use Rattle.std.proofs.lemmas.Grind.{common_steps}
use Rattle.il_component.proofs.Calm.{fresh_idle}
use Rattle.il_component.proofs.component.Component.fresh.Goals as goal

pub invariant_of-result : goal.invariant_of-result
invariant_of-result g c = (first_of (search rules, grind (arith, common_steps)), rw c.in-Ok.ensures (fresh_idle _ c.empty.result c.empty.ensures))
