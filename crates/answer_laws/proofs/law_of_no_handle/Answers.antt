use Rattle.answer_laws.proofs.Numbered.{none_named, run_numbered}
use Rattle.answer_laws.proofs.law_of_no_handle.Goals as goal

pub returns : goal.returns
returns c = record { numbered = run_numbered; none = none_named }
