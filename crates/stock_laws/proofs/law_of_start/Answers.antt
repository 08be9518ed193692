use Rattle.stock_laws.proofs.Standing.{start_stands}
use Rattle.stock_laws.proofs.law_of_start.Goals as goal

pub returns : goal.returns
returns c = start_stands
