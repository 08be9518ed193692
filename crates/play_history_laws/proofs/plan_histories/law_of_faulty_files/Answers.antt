use Rattle.play_history_laws.proofs.Texts.{fault_fronts, fault_whole}
use Rattle.play_history_laws.proofs.plan_histories.law_of_faulty_files.Goals as goal

pub returns : goal.returns
returns c = record { whole = fault_whole; fronts = fault_fronts }
