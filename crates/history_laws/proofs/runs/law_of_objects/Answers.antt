use Rattle.history_laws.proofs.Objects.{out_busy, out_stays}
use Rattle.history_laws.proofs.runs.law_of_objects.Goals as goal

pub returns : goal.returns
returns c = record { busy = out_busy; stays = out_stays }
