use Rattle.play_forms.proofs.OneFault.{one_fault, planned_faultless}
use Rattle.play_forms.proofs.OneFitted.{one_fitted, one_plan}
use Rattle.play_forms.proofs.OneMisfit.{fit_faultless, one_misfit}
use Rattle.play_forms.proofs.laws.law_of_plans.Goals as goal

pub returns : goal.returns
returns c = record { plan = one_plan; planned = planned_faultless; first = one_fault; fitted = one_fitted; fit = fit_faultless; misfit = one_misfit }
