use Rattle.play_world_laws.proofs.Opened.{play_opens}
use Rattle.play_world_laws.proofs.worlds.law_of_play_openings.Goals as goal

pub returns : goal.returns
returns c = record { opens = play_opens }
