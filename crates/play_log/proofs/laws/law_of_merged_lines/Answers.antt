use Rattle.play_log.proofs.Choosing.{all_lists}
use Rattle.play_log.proofs.laws.law_of_merged_lines.Goals as goal

pub returns : goal.returns
returns g c = all_lists
