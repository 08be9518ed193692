use Rattle.play_world_laws.proofs.Running.{run_port_can, run_port_leads}
use Rattle.play_world_laws.proofs.changes.law_of_port_runs.Goals as goal

pub returns : goal.returns
returns c = record { done = run_port_leads; can = run_port_can }
