use Rattle.script_lang.proofs.OneOutcome.{one-outcome}
use Rattle.script_lang.proofs.laws.one_outcome.Goals as goal

pub returns : goal.returns
returns c = record { same = one-outcome }
