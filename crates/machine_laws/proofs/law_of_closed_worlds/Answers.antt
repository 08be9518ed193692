use Rattle.machine_laws.proofs.Closing.{closed_rests, closed_closes}
use Rattle.machine_laws.proofs.law_of_closed_worlds.Goals as goal

pub returns : goal.returns
returns c = record { rests = closed_rests; stays = closed_closes }
