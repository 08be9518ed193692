use Rattle.play_history_laws.proofs.RequestedEnds.{all_rest, played_out}
use Rattle.play_history_laws.proofs.requested_steps.law_of_requested_ends.Goals as goal

pub returns : goal.returns
returns c = record {
  rests = λ plan files handles w R S links steps A v r. all_rest plan files R handles w S links steps A v r;
  ended = λ plan files handles w R S links steps A v r. played_out plan files R handles w S links steps A v r;
}
