use Rattle.machine_laws.proofs.Closing.{closes_once}
use Rattle.machine_laws.proofs.Ending.{closes_somewhere}
use Rattle.machine_laws.proofs.law_of_closing.Goals as goal

pub returns : goal.returns
returns c = record { ends = closes_somewhere; once = closes_once }
