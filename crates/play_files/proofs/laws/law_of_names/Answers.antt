use Rattle.play_files.proofs.OwnFiles.{own_files}
use Rattle.play_files.proofs.laws.law_of_names.Goals as goal

pub returns : goal.returns
returns c = own_files
