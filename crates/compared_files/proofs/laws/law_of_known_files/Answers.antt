use Rattle.compared_files.proofs.Known.{known_bytes, known_ends, known_names}
use Rattle.compared_files.proofs.laws.law_of_known_files.Goals as goal

pub returns : goal.returns
returns c = record { names = known_names; bytes = known_bytes; ends = known_ends }
