use Rattle.param_store.proofs.GetAfterSet.{get_after_set}
use Rattle.param_store.proofs.laws.law_of_get_after_set.Goals as goal

pub returns : goal.returns
returns c = get_after_set
