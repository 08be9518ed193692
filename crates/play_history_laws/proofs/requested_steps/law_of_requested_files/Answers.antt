use Rattle.play_history_laws.proofs.Files.{requested_fronts, requested_none, requested_whole}
use Rattle.play_history_laws.proofs.requested_steps.law_of_requested_files.Goals as goal

pub returns : goal.returns
returns c = record {
  none_failed = requested_none;
  whole = λ plan files samples R F handles w S links left steps A v r. requested_whole plan files R handles w S links left steps A v r samples F;
  fronts = λ plan files samples R F handles w S links left steps A v r. requested_fronts plan files R handles w S links left steps A v r samples F;
}
