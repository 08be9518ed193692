use Rattle.param_store.proofs.GetAfterSet.{all_else}
use Rattle.param_store.proofs.laws.law_of_all_else.Goals as goal

pub returns : goal.returns
returns c = all_else
