use Rattle.std.proofs.Common.{arith}
use Rattle.play_model.proofs.Files.{play_leaves, play_fronts, over_unmade}
use Rattle.play_model.proofs.plays.law_of_over.Goals as goal

pub returns : goal.returns
returns c = record {
  ended = λ w p R O. R.ended (let e = O.phase in omega arith);
  changed = λ w p R O l b t. (R.changes l b).over (let e = O.phase in omega arith) t;
  unmade = over_unmade;
  files = play_leaves;
  fronts = play_fronts;
}
