use Rattle.play_build_laws.proofs.Parting.{all_parted, parts}
use Rattle.play_build_laws.proofs.Freeing.{frees}
use Rattle.play_build_laws.proofs.dismantling.law_of_dismantling.Goals as goal

pub returns : goal.returns
returns c = record { parted = parts; all_parted = all_parted; freed = frees }
