use Rattle.registry.proofs.StaleHandles.{stale_stays}
use Rattle.registry.proofs.laws.law_of_stale_handles.Goals as goal

pub returns : goal.returns
returns g c = stale_stays
