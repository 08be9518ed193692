use Rattle.play_world_laws.proofs.ToldActs.{its_event, queued_so, told_so}
use Rattle.play_world_laws.proofs.clients.law_of_play_tellings.Goals as goal

pub returns : goal.returns
returns c = record { told = told_so; queued = queued_so; event = its_event }
