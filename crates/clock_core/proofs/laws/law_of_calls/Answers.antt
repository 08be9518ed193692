use Rattle.clock_core.proofs.TogetherLaws.{is-lawful}
use Rattle.clock_core.proofs.laws.law_of_calls.Goals as goal

pub returns : goal.returns
returns c = is-lawful
