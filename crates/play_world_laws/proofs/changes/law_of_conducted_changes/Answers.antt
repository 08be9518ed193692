use Rattle.play_world_laws.proofs.Dropping.{drop_leads}
use Rattle.play_world_laws.proofs.Joining.{join_leads}
use Rattle.play_world_laws.proofs.Sending.{send_leads}
use Rattle.play_world_laws.proofs.Setting.{set_leads}
use Rattle.play_world_laws.proofs.changes.law_of_conducted_changes.Goals as goal

pub returns : goal.returns
returns c = record { sent = send_leads; dropped = drop_leads; set = set_leads; joined = join_leads }
