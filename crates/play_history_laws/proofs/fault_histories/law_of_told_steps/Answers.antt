use Rattle.play_history_laws.proofs.Telling.{all_named, told_so}
use Rattle.play_history_laws.proofs.fault_histories.law_of_told_steps.Goals as goal

pub returns : goal.returns
returns c = record { told = told_so; named = all_named }
