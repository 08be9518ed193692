use Rattle.history_laws.proofs.Joining.{run_joined, run_cut, run_moves}
use Rattle.history_laws.proofs.runs.law_of_joined_runs.Goals as goal

pub returns : goal.returns
returns c = record { joined = run_joined; cut = run_cut; moves = run_moves }
