use Rattle.history_laws.proofs.KeyLaw.{closing_key, runs_key, steps_key}
use Rattle.history_laws.proofs.histories.law_of_keys.Goals as goal

pub returns : goal.returns
returns c = record { steps = steps_key; closing = closing_key; runs = runs_key }
