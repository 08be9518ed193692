use Rattle.stock_laws.proofs.Clearing.{mark_stands}
use Rattle.stock_laws.proofs.law_of_marks.Goals as goal

pub returns : goal.returns
returns c = mark_stands
