use Rattle.play_files.proofs.FitOrFault.{fit_or_fault}
use Rattle.play_files.proofs.FittedPlans.{one_fitted_to}
use Rattle.play_files.proofs.SomeFitted.{some_fitted}
use Rattle.play_files.proofs.laws.law_of_fitted_plans.Goals as goal

pub returns : goal.returns
returns c = record { one = one_fitted_to; some = some_fitted; fits = λ script old fitted is. fit_or_fault fitted }
