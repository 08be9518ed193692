use Rattle.line_text.specs.Lists.{texts}
use Rattle.script_lang.proofs.PlayFormsAgain.{found-weights}
use Rattle.script_lang.proofs.read_play_forms.weights_in.Goals as goal

pub returns-clause-some : goal.returns-clause-some
returns-clause-some c = found-weights (texts c.args.words.now) c.each_weight_in.result c.each_weight_in.ensures
