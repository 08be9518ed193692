use Rattle.std.proofs.Common.{◌≡◌, ◌++◌, length, drop, option_map}
use Rattle.line_text.specs.Lists.{texts}
use Rattle.script_lang.specs.ReadPlayForms.{weights_of}
use Rattle.script_lang.proofs.read_play_forms.each_weight_in.Given as goal

abbrev pub invariant-loop-word : goal.invariant-loop-word
invariant-loop-word l = record {
  read : weights_of (texts l.words) ≡ option_map (λ weights. l.weights.items ++ weights) (weights_of (texts (drop l.word-index l.words)));
  count : length l.weights.items ≡ l.word-index;
}
