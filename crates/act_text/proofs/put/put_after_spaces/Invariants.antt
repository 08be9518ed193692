use Rattle.std.proofs.Common.{◌≡◌, ◌++◌, take}
use Rattle.line_text.specs.Lists.{after_spaces}
use Rattle.act_text.specs.Words.{put_words}
use Rattle.act_text.proofs.put.put_after_spaces.Given as goal

abbrev pub invariant-loop-word : goal.invariant-loop-word
invariant-loop-word l = l.out.items ≡ l.initial.out.items ++ after_spaces (put_words (take l.word-index l.words))
