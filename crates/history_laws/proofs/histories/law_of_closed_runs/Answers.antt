use Rattle.history_laws.proofs.ClosedLaw.{step_closed, runs_closed}
use Rattle.history_laws.proofs.histories.law_of_closed_runs.Goals as goal

pub returns : goal.returns
returns c = record { steps = step_closed; runs = runs_closed }
