use Rattle.play_history_laws.proofs.Texts.{plan_fronts, plan_whole}
use Rattle.play_history_laws.proofs.plan_histories.law_of_plan_files.Goals as goal

pub returns : goal.returns
returns c = record { whole = plan_whole; fronts = plan_fronts }
