use Rattle.line_text.specs.Lists.{texts}
use Rattle.script_lang.specs.PlayScripts.{play_seen}
use Rattle.script_lang.proofs.PlaySayings.{play_units-none}
use Rattle.script_lang.proofs.play_saying.units_at.Goals as goal

pub returns-clause-none : goal.returns-clause-none
returns-clause-none c = play_units-none (play_seen c.args.before.now) (texts c.args.words.now) c.units_in.result c.units_in.ensures.is
