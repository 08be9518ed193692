use Rattle.std.proofs.Common.{◌≡◌, drop}
use Rattle.line_text.specs.Lists.{texts, after_spaces}
use Rattle.act_text.proofs.words.follow_spaces.Given as goal

abbrev pub invariant-loop-word : goal.invariant-loop-word
invariant-loop-word l = record {
  there : l.line ≡ after_spaces (texts l.words) → l.rest ≡ after_spaces (texts (drop l.word-index l.words));
  back : l.rest ≡ after_spaces (texts (drop l.word-index l.words)) → l.line ≡ after_spaces (texts l.words);
}
