use Rattle.play_history_laws.proofs.Looking.{looks_behind}
use Rattle.play_history_laws.proofs.conducting.law_of_looks.Goals as goal

pub returns : goal.returns
returns c = record { looks = λ x k recent p ss w D component handle progress b n e none. looks_behind x k recent p ss w D component handle progress b n e none }
