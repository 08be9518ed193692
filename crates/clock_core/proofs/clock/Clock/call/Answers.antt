use Rattle.clock_core.proofs.TogetherLaws.{goes-on}
use Rattle.clock_core.proofs.clock.Clock.call.Goals as goal

pub returns-clause-law : goal.returns-clause-law
returns-clause-law c = λ before is. goes-on before c.args.wall c.args.act _ _ _ _ _ c.carry_out.ensures.answer c.carry_out.ensures.state c.carry_out.ensures.notes is
