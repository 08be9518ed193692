use Rattle.std.proofs.Common.{arith}
use Rattle.state_words.proofs.Showing.{splits}
use Rattle.state_words.proofs.words.StateWords.split.Goals as goal

pub split_seat-requires : goal.split_seat-requires
split_seat-requires c = let t = c.requires in let n = t.5 in (t.0, omega arith, splits _ _)
