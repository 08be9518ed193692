use Rattle.history_laws.proofs.DeterminedLaw.{steps_alike}
use Rattle.history_laws.proofs.histories.law_of_steps_determined.Goals as goal

pub returns : goal.returns
returns c = steps_alike
