use Rattle.play_world_laws.proofs.Endings.{tell_end_leads}
use Rattle.play_world_laws.proofs.StageNotes.{take_leads}
use Rattle.play_world_laws.proofs.Tellings.{tell_leads}
use Rattle.play_world_laws.proofs.stage_calls.law_of_play_notes.Goals as goal

pub returns : goal.returns
returns c = record { taken = take_leads; told = tell_leads; told_end = tell_end_leads }
