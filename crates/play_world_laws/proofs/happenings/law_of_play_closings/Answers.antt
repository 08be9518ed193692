use Rattle.play_world_laws.proofs.Closing.{act_closes, idle_closes}
use Rattle.play_world_laws.proofs.happenings.law_of_play_closings.Goals as goal

pub returns : goal.returns
returns c = record { acted = act_closes; idle = idle_closes }
