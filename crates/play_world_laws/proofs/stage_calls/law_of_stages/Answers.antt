use Rattle.play_world_laws.proofs.StageRuns.{run_leads}
use Rattle.play_world_laws.proofs.StageSends.{send_leads}
use Rattle.play_world_laws.proofs.stage_calls.law_of_stages.Goals as goal

pub returns : goal.returns
returns c = record { sent = send_leads; ran = run_leads }
