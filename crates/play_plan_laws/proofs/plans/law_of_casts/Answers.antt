use Rattle.play_plan_laws.proofs.Casting.{plan_casts}
use Rattle.play_plan_laws.proofs.Casts.{plan_has_cast}
use Rattle.play_plan_laws.proofs.plans.law_of_casts.Goals as goal

pub returns : goal.returns
returns c = record { some = plan_has_cast; cast = plan_casts }
