use Rattle.wav_form.proofs.Read.{answer_exists, same_answer}
use Rattle.wav_form.proofs.laws.one_answer.Goals as goal

pub returns-clause-some : goal.returns-clause-some
returns-clause-some c = answer_exists

pub returns-clause-same : goal.returns-clause-same
returns-clause-same c = same_answer
