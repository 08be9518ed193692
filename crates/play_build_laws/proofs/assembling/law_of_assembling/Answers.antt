use Rattle.play_build_laws.proofs.Stages.{makes, factors, sets_output, sets_input, files, joins}
use Rattle.play_build_laws.proofs.assembling.law_of_assembling.Goals as goal

pub returns : goal.returns
returns c = record {
  made = λ s handles w v n result L W b r. makes s L handles w v n result W b r;
  factored = λ s handles w v place i factor h result L W b e f r. factors s L handles w v place i factor h result W b e f r;
  output = λ s handles w v l h result L W b e r. sets_output s L handles w v l h result W b e r;
  input = λ s handles w v l h result L W b e r. sets_input s L handles w v l h result W b e r;
  filed = λ s handles w v place h file result L W b e f r. files s L handles w v place h file result W b e f r;
  joined = λ s handles w v l h g result L W b e f r. joins s L handles w v l h g result W b e f r;
}
