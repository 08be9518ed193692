use Rattle.script_lang.proofs.PlayFormsAgain.{filed}
use Rattle.script_lang.proofs.read_play_forms.word_part_in.Goals as goal

pub returns-in-Some-clause-is : goal.returns-in-Some-clause-is
returns-in-Some-clause-is c = filed c.file_part_in.result c.args.verb.now c.args.word.now c.in-Some.ensures.some.1 c.file_part_in.ensures.is
