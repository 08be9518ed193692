use Rattle.line_text.specs.Lists.{texts}
use Rattle.script_lang.specs.Scripts.{seen}
use Rattle.script_lang.proofs.Sayings.{units-none}
use Rattle.script_lang.proofs.saying.units_at.Goals as goal

pub returns-clause-none : goal.returns-clause-none
returns-clause-none c = units-none (seen c.args.before.now) (texts c.args.words.now) c.units_in.result c.units_in.ensures.is
