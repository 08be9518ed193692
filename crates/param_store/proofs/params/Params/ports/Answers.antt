use Rattle.std.proofs.Common.{arith}
use Rattle.std.proofs.lemmas.Grind.{common_steps}
use Rattle.param_store.proofs.params.Params.ports.Goals as goal

pub returns-clause-settings : goal.returns-clause-settings
returns-clause-settings c = rw (← c.self.view_is) (let few = c.ports.ensures.few in let all = c.self.invariant.0 in grind (arith, common_steps))
