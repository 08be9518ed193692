use Rattle.play_history_laws.proofs.Undoing.{failed_is}
use Rattle.play_history_laws.proofs.failed_steps.law_of_failed_steps.Goals as goal

pub returns : goal.returns
returns c = record { undone = failed_is }
