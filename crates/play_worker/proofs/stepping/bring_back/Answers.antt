use Rattle.play_worker.proofs.Keeping.{has_only}
use Rattle.play_worker.proofs.stepping.bring_back.Goals as goal

pub call-requires-clause-may : goal.call-requires-clause-may
call-requires-clause-may g c = let h = c.requires.holds in (h.0, has_only _ h.0 h.1, h.2)
