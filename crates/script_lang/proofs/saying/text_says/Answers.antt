use Rattle.std.proofs.Common.{rules, IsFalse}
use Rattle.line_text.specs.Words.{words_of}
use Rattle.script_lang.specs.Scripts.{seen}
use Rattle.line_text.specs.Scripts.{is_skipped}
use Rattle.script_lang.proofs.Sayings.{long-no-form}
use Rattle.script_lang.proofs.saying.text_says.Goals as goal

pub returns-in_default : goal.returns-in_default
returns-in_default c =
    let unskipped : IsFalse (is_skipped (words_of c.args.line.now)) = search rules in
    (unskipped, long-no-form (seen c.args.before.now) (words_of c.args.line.now) c.in_default.ensures.none)
