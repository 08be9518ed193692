use Rattle.std.proofs.Common.{arith}
use Rattle.script_lang.proofs.PlayFormsAgain.{two-none}
use Rattle.script_lang.proofs.read_play_forms.play_form_in.Goals as goal

pub returns-in-len2-clause-none : goal.returns-in-len2-clause-none
returns-in-len2-clause-none c = two-none c.args.words.now _ _ c.short_form_in.result (omega arith) c.short_form_in.ensures.is
