use Rattle.play_plan_laws.proofs.Scripts.{fitted_scripted, scripted}
use Rattle.play_plan_laws.proofs.plans.law_of_scripts.Goals as goal

pub returns : goal.returns
returns c = record { planned = scripted; fitted = fitted_scripted }
