use Rattle.history_laws.proofs.Delivering.{run_given, run_front}
use Rattle.history_laws.proofs.runs.law_of_deliveries.Goals as goal

pub returns : goal.returns
returns c = record { given = run_given; front = run_front }
