use Rattle.std.proofs.Common.{refl, ap}
use Rattle.play_log.specs.Spelled.{spelled_from}
use Rattle.play_log.proofs.Keeping.{keeps_none}
use Rattle.play_log.proofs.log.Log.new.Goals as goal

pub returns-clause-history : goal.returns-clause-history
returns-clause-history c s = keeps_none s _ (record { text = ap (spelled_from _ 1) c.new-2.ensures; count = refl })
