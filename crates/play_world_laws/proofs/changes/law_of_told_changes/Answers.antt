use Rattle.play_world_laws.proofs.Completing.{completion_leads}
use Rattle.play_world_laws.proofs.Telling.{settings_lead}
use Rattle.play_world_laws.proofs.changes.law_of_told_changes.Goals as goal

pub returns : goal.returns
returns c = record { settings = settings_lead; port = completion_leads }
