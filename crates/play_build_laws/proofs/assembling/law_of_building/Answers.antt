use Rattle.play_build_laws.proofs.Building.{built_so}
use Rattle.play_build_laws.proofs.assembling.law_of_building.Goals as goal

pub returns : goal.returns
returns c = built_so
