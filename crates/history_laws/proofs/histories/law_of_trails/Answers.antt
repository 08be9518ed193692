use Rattle.history_laws.proofs.TrailLaw.{trails_of_steps, closing_trails, trails_of_runs}
use Rattle.history_laws.proofs.histories.law_of_trails.Goals as goal

pub returns : goal.returns
returns c = record { steps = trails_of_steps; closing = closing_trails; runs = trails_of_runs }
