use Rattle.answer_laws.proofs.OneEnd.{one_end}
use Rattle.answer_laws.proofs.law_of_one_end.Goals as goal

pub returns : goal.returns
returns c = one_end
