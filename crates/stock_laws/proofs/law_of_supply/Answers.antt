use Rattle.stock_laws.proofs.Composed.{make_put}
use Rattle.stock_laws.proofs.law_of_supply.Goals as goal

pub returns : goal.returns
returns c = make_put
