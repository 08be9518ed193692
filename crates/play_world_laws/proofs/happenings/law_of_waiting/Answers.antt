use Rattle.play_world_laws.proofs.Waiting.{waits_first, waits_on}
use Rattle.play_world_laws.proofs.happenings.law_of_waiting.Goals as goal

pub returns : goal.returns
returns c = record { begun = waits_first; kept = waits_on }
