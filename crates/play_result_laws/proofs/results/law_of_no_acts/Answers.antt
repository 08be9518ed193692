use Rattle.play_result_laws.proofs.NoActs.{no_acts}
use Rattle.play_result_laws.proofs.results.law_of_no_acts.Goals as goal

pub returns : goal.returns
returns c = no_acts
