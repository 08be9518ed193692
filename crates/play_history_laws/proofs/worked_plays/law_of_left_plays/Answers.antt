use Rattle.play_history_laws.proofs.Files.{requested_fronts}
use Rattle.play_log.specs.Entries.{steps_of}
use Rattle.play_history_laws.proofs.Rounds.{conducted_accepted, conducted_tunnels}
use Rattle.play_history_laws.specs.Worked.{conducts}
use Rattle.play_history_laws.proofs.AllAsked.{asks, history, ordered}
use Rattle.play_history_laws.proofs.ByPass.{all_by_pass, all_conducted}
use Rattle.play_history_laws.proofs.WorkUnrefused.{none_refused}
use Rattle.play_result_laws.specs.Passes.{own_steps}
use Rattle.play_history_laws.proofs.worked_plays.law_of_left_plays.Goals as goal

pub returns : goal.returns
returns c = record {
  unrefused = λ plan files handles w entries v W value C. none_refused plan files handles w entries v W (asks plan files handles w entries v W value C).0 (history plan files handles w entries v W value C).goes;
  passes = λ plan files handles w entries v W value C.
      let U = none_refused plan files handles w entries v W (asks plan files handles w entries v W value C).0 (history plan files handles w entries v W value C).goes in
      all_by_pass entries w v W.runs U W.alone (all_conducted plan files handles (own_steps conducts entries) value C);
  accepted = λ plan files handles w entries v W F. conducted_accepted plan files handles w W.ready W.stage conducts entries v W.alone W.runs F;
  fronts = λ plan files handles w entries v W value C samples F.
      let R = ordered plan files handles w entries v W value C in
      requested_fronts plan files W.ready handles w W.stage R.links R.left (steps_of entries) R.are v W.runs samples F;
  stands = λ plan files handles w entries v W value C.
      let K = conducted_tunnels plan files handles w W.ready W.stage conducts entries v W.alone W.runs value C in
      (K.1, K.2, K.3, (K.4).sound, (((K.4).taken).played).play, K.5);
}
