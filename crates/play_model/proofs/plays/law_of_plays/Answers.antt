use Rattle.play_model.proofs.Enabled.{enabled, fewest_first}
use Rattle.play_model.proofs.Handing.{act_reaches, begun_reached}
use Rattle.play_model.proofs.plays.law_of_plays.Goals as goal

pub returns : goal.returns
returns c = record { begun = begun_reached; kept = act_reaches; fewest = fewest_first; enabled = enabled }
