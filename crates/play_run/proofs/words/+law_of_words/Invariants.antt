use Rattle.std.proofs.Common.{length}
use Rattle.play_run.proofs.words.+law_of_words.Given as goal

abbrev pub decreases-law_of_words : goal.decreases-law_of_words
decreases-law_of_words l = length l.words.now
