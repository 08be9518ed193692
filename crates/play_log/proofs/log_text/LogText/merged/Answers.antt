use Rattle.std.proofs.Common.{◌∙◌}
use Rattle.play_log.proofs.Placing.{text_of_all}
use Rattle.play_log.proofs.log_text.LogText.merged.Goals as goal

pub returns-clause-text : goal.returns-clause-text
returns-clause-text c lists K = c.in_ok-new.ensures.text ∙ text_of_all lists c.args.pages.items K
