use Rattle.std.proofs.Common.{sym, ◌∙◌}
use Rattle.line_text.specs.Lists.{texts}
use Rattle.script_lang.specs.Scripts.{seen}
use Rattle.script_lang.proofs.Sayings.{no-form}
use Rattle.script_lang.proofs.saying.words_say.Goals as goal

pub returns-in_default-2 : goal.returns-in_default-2
returns-in_default-2 c =
    (c.requires.counts, no-form (seen c.args.before.now) (texts c.args.words.now) (sym c.in_default-2.is ∙ c.in_ok-form.ensures.is) c.in_default.ensures.none)
