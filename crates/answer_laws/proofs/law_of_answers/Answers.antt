use Rattle.answer_laws.proofs.Answered.{answered}
use Rattle.answer_laws.proofs.law_of_answers.Goals as goal

pub returns : goal.returns
returns c = answered
