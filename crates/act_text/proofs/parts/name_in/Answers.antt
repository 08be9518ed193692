use Rattle.act_text.proofs.Dots.{name_of-read}
use Rattle.act_text.proofs.parts.name_in.Goals as goal

pub returns-clause-is : goal.returns-clause-is
returns-clause-is c = name_of-read c.args.word.now c.of.result c.of.ensures.some c.of.ensures.named c.of.ensures.none
