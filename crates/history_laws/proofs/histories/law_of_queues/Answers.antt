use Rattle.history_laws.proofs.QueueLaw.{queues_of_steps, effects_close}
use Rattle.history_laws.proofs.RunLaw.{queues_of_runs, all_were_due, comes_empty}
use Rattle.history_laws.proofs.histories.law_of_queues.Goals as goal

pub returns : goal.returns
returns c = record { steps = queues_of_steps; effects = effects_close; new = comes_empty; runs = queues_of_runs; whole = all_were_due }
