use Rattle.play_log.proofs.Keeping.{keeps_text}
use Rattle.play_log.proofs.log.Log.finish.Goals as goal

pub returns-clause-logged : goal.returns-clause-logged
returns-clause-logged c = keeps_text c.args.self c.with_end.result c.with_end.ensures.text c.with_end.ensures.whole
