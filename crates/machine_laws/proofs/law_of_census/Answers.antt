use Rattle.machine_laws.proofs.Standing.{sound_census}
use Rattle.machine_laws.proofs.law_of_census.Goals as goal

pub returns : goal.returns
returns c = sound_census
