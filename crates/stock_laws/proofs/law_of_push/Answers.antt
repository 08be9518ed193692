use Rattle.stock_laws.proofs.Standing.{push_stands}
use Rattle.stock_laws.proofs.law_of_push.Goals as goal

pub returns : goal.returns
returns c = push_stands
